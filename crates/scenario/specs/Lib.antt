pub mod Number
pub mod Octets
pub mod Slice
pub mod Words

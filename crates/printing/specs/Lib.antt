pub mod Absent
pub mod Octets
pub mod Slice

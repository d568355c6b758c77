pub mod Flat
pub mod Held
pub mod Rows
pub mod Laws

pub mod Held
pub mod Grids
pub mod Places
pub mod Rows
pub mod Laws

pub mod Models
pub mod Entries
pub mod Calls
pub mod Runs
pub mod Positions
pub mod Laws

pub mod Holding
pub mod Calls

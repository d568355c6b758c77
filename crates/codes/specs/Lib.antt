pub mod Refusals
pub mod Causes
pub mod RequestTypes
pub mod Sessions

pub mod Counts
pub mod Lowests
pub mod Questions
mod Finding

pub mod Contexts
pub mod Stores
pub mod Finding

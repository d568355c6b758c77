pub mod Elements
pub mod Steps
pub mod Uplinks
pub mod Views
pub mod Messages
pub mod Returns
pub mod Sample

pub mod Named
pub mod Setting
pub mod Lawful
pub mod Shown
pub mod Told

pub mod Reading
pub mod Shown

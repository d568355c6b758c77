pub mod Halves
pub mod Ruled
pub mod Lawful
pub mod Using
pub mod Alike
pub mod Bounded
pub mod Replaced

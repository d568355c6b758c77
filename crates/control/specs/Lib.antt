pub mod Controls
pub mod Keys
pub mod Lines
pub mod Octets

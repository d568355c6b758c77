pub mod Buffers
pub mod Fits
pub mod Views
pub mod Receiving
pub mod Calls
pub mod Openings

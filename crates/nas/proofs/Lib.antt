pub mod Passing
pub mod Encoded
pub mod Accepted
pub mod Laws
pub mod Fronts
pub mod Bounds

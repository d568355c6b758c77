pub mod Failing
pub mod Deciding
pub mod Tickets
pub mod Bounds
pub mod Accepting

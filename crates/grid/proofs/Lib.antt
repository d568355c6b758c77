mod Written
mod Rows
pub mod Rooms
mod Tells
mod Stores

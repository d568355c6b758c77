pub mod Aparts
pub mod Found
pub mod Lists

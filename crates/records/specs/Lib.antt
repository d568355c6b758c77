pub mod Records
pub mod Firsts
pub mod Configurations

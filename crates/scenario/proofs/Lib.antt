pub mod Cuts
pub mod Decimals
pub mod Pairs
pub mod Codes

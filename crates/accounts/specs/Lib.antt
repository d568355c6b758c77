pub mod Inquiries
pub mod Receives
pub mod Accounts
pub mod TenCases

pub mod Fates
pub mod Accounts
pub mod Rows
pub mod Skips
pub mod Places
pub mod Tokens

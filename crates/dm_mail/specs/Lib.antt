pub mod Limits
pub mod Mails
pub mod World
pub mod Rule
pub mod Faults
pub mod Ends
pub mod Laws

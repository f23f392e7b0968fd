pub mod Names
pub mod Owners
pub mod Laws

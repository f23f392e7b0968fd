pub mod Leaving
pub mod Minimizing
pub mod Obliterating
pub mod Sending
pub mod Telling
pub mod Undoing
pub mod Laws

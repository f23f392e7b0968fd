pub mod Kept
pub mod Trailers
pub mod Laws

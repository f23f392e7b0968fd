pub mod Meanings
pub mod Pools
pub mod Networks
pub mod Laws

pub mod Heaps
pub mod Nodes
pub mod Facts
pub mod Steps
pub mod Identities
pub mod Sums
pub mod Runs
pub mod Laws

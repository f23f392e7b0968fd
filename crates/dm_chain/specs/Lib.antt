pub mod Chains
pub mod Sums
pub mod HunksInTurn
pub mod Laws

pub mod Entries
pub mod Kinds
pub mod Growth
pub mod Keeping
pub mod LettingGo
pub mod Opening
pub mod WholeEntries
pub mod Laws

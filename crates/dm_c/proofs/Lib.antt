pub mod LooseValues
pub mod InnerValues
pub mod Giving
pub mod ToldLemmas
pub mod CheckLemmas
pub mod SendLemmas
pub mod NumberLemmas

pub mod LineLemmas
pub mod PlaceLemmas
pub mod RepositoryLemmas
pub mod RowLemmas
pub mod MadeLemmas
pub mod OrderLemmas

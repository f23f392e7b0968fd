pub mod ChoiceLemmas
pub mod FateLemmas
pub mod SkipLemmas
pub mod LineLemmas
pub mod RowLemmas
pub mod PlaceLemmas
pub mod AccountLemmas
pub mod TokenLemmas

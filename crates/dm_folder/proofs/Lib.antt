pub mod WalkLemmas
pub mod BuildLemmas
pub mod ReadLemmas
pub mod StampLemmas
pub mod KeepLemmas
pub mod EventLemmas
pub mod ListedLemmas

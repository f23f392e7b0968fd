pub mod FitLemmas
pub mod PatchLemmas

pub mod MirrorLemmas
pub mod NamedLemmas
pub mod LettingGoLemmas
pub mod ChoosingLemmas
pub mod DoneLemmas

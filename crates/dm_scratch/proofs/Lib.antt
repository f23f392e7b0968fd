pub mod ReadLemmas
pub mod EachLemmas
pub mod CountLemmas
pub mod KeepLemmas
pub mod OneOutcome
pub mod PrintLemmas
pub mod KindLemmas

pub mod DigitLemmas
pub mod KeptLemmas
pub mod TrailerLemmas

pub mod ContentLemmas
pub mod DigitLemmas
pub mod StarLemmas

pub mod ArgLemmas

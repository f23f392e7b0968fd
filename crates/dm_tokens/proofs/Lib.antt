pub mod ExchangeLemmas
pub mod PieceLemmas
pub mod SetLemmas
pub mod TurnLemmas

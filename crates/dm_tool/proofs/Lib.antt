pub mod WordLemmas
pub mod GroupLemmas
pub mod RunLemmas
pub mod PlanLemmas

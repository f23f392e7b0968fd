pub mod ListLemmas
pub mod PostingLemmas
pub mod FoldLemmas
pub mod DeliveryLemmas
pub mod RunLemmas
pub mod SettleLemmas
pub mod PlanLemmas
pub mod ReportLemmas

pub mod MailLemmas
pub mod Totals
pub mod WorldLemmas
pub mod RuleLemmas
pub mod EndLemmas

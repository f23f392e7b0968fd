pub mod Events
pub mod States

pub mod Elements
pub mod Laws
pub mod Lists
pub mod Reasons
pub mod Settled
pub mod Standing
pub mod Values

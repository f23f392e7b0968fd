pub mod Contents
pub mod Digits
pub mod Laws

pub mod Words
pub mod Taking
pub mod Laws
pub mod Printing

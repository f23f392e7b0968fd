pub mod Told
pub mod Forms
pub mod Said

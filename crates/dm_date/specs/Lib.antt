pub mod Pieces
pub mod Names
pub mod Zones
pub mod Digits
pub mod Written
pub mod Old
pub mod Iso
pub mod Readable

pub mod Exchanging
pub mod Laws
pub mod Pieces
pub mod Reading
pub mod Sets
pub mod Turning
pub mod Validity
pub mod Walks

pub mod Found
pub mod Walks
pub mod Builds
pub mod Faults
pub mod Reads
pub mod Keeps
pub mod Events
pub mod Listed

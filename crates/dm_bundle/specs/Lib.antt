pub mod Heading
pub mod Patches
pub mod Room
pub mod Context
pub mod Bundles
pub mod Canonical
pub mod Faults
pub mod Laws

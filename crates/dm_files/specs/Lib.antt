pub mod Choosing
pub mod Bundles
pub mod Named
pub mod Mirrors
pub mod Obliterating
pub mod Beginning
pub mod Bases

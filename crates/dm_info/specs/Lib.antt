pub mod PatchInfo
pub mod Refusals
pub mod Spelling
pub mod Compared
pub mod ComparedLaws
pub mod Reading
pub mod Laws

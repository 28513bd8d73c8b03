pub mod Tidy
pub mod Depth
pub mod TidyTree
pub mod TidyKept
pub mod Laid

pub mod Marks
pub mod Rest
pub mod Flags
pub mod BaseLoops
pub mod Members

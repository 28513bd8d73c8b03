pub mod Paper
pub mod Reasons
pub mod Taken

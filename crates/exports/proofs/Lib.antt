pub mod OneTotal
pub mod OneNumber

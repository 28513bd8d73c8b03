pub mod Answer
pub mod Shown
pub mod Demand
pub mod Examples
pub mod Buffers
pub mod Text

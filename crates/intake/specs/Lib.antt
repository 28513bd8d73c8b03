pub mod Limits
pub mod Faults
pub mod Scan
pub mod Number
pub mod Accepted
pub mod Text

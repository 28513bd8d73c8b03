pub mod Layout
pub mod Effective
pub mod Answer
pub mod Nested
pub mod Fits
pub mod Facts

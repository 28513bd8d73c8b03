pub mod Language
pub mod Premises

pub mod Exact
pub mod Total
pub mod Cut
pub mod Text

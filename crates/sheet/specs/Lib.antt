pub mod Layout
pub mod Refused
pub mod Fits
pub mod Printed

pub mod Builtin
pub mod BuiltinSource
pub mod Derives
pub mod Table
pub mod Fill
pub mod Answer
pub mod Facts

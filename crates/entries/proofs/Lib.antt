pub mod Alone
pub mod ItemEncoded
pub mod Tidied
pub mod Shallow
pub mod TidiedFits
pub mod TidiedAgain
pub mod TidiedKept
pub mod TidiedFacts

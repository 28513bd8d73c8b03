pub mod Answer
pub mod ItemAnswer
pub mod TidyAnswer
pub mod TidyFacts

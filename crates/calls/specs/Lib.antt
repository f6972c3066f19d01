pub mod Endings
pub mod Resolving
pub mod Work
pub mod Working
pub mod Answers

pub mod Troubles
pub mod Added
pub mod Answered

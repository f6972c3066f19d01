pub mod Tables
pub mod Notes
pub mod Asking
pub mod Answers
pub mod FirstRound
pub mod Wants
pub mod Walked

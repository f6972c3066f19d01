pub mod Behind
pub mod Lines
pub mod Shown

pub mod Tables
pub mod Finds
pub mod Passes
pub mod Keeping
pub mod Columns
pub mod Resolving

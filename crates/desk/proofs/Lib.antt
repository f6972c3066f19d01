pub mod Ended
pub mod NoLine
pub mod Unstepped

pub mod Codes
pub mod Few
pub mod Faults
pub mod Shape
pub mod Catalog
pub mod Limits
pub mod Meaning

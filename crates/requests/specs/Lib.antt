pub mod Asked
pub mod Early
pub mod Ordinals

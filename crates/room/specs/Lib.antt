pub mod Tables
pub mod Sizes
pub mod Added
pub mod Room
pub mod Order
pub mod Asked

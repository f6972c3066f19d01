pub mod Ascii
pub mod Chain
pub mod Describing
pub mod Holding

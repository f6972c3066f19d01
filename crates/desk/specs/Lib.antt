pub mod Bound
pub mod Buffers
pub mod Run

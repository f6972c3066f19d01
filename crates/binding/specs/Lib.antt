pub mod Types
pub mod Memory
pub mod Asked
pub mod ColumnRound
pub mod Writing
pub mod Whole

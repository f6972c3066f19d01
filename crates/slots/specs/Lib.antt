pub mod Text
pub mod Slots
pub mod Stack

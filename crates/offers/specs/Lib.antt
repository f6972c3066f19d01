pub mod Offered
pub mod Read
pub mod Same

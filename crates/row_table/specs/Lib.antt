pub mod Held
pub mod Tables
pub mod Table
pub mod Laws
pub mod Additions
pub mod Outcomes

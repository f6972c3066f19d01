pub mod Table
pub mod Laws
pub mod Meaning

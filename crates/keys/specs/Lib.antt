pub mod Laws
pub mod Spans
pub mod Senses
pub mod Kinds

pub mod Catalogs
pub mod Lines
pub mod Run

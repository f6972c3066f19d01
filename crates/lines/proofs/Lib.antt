pub mod Lists
pub mod Prefix
pub mod Spans

pub mod Around
pub mod Growing
pub mod Held
pub mod Kept
pub mod Search

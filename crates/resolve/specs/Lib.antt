pub mod Walks
pub mod Rounds
pub mod Fills
pub mod Lists

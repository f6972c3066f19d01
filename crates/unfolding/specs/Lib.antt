pub mod Lists
pub mod Unfolding
pub mod Laws

pub mod Fresh
pub mod Consistent
pub mod Put
pub mod Told
pub mod Grown

pub mod Alike
pub mod Decided
mod Every
mod Typed

pub mod BuiltIn
pub mod Cards
pub mod Steps
pub mod HostCalls
pub mod Lives
pub mod Hollow
pub mod Capacities

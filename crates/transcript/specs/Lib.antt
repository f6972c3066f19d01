pub mod Appends
pub mod Printed
pub mod Steps
pub mod Types
pub mod Describe
pub mod Laying

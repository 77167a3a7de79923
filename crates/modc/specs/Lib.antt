pub mod FileNames
pub mod Limits

pub mod Constants
pub mod Kinds
pub mod Operations
pub mod Values

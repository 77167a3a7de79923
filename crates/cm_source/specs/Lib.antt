pub mod Places
pub mod Runs
pub mod LogicalText
pub mod Steps
pub mod Drafts
pub mod Faults

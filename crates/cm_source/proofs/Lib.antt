pub mod Runs
pub mod Ascii
pub mod Steps
pub mod Drafts

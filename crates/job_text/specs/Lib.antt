pub mod Answers
pub mod Fields
pub mod Escapes
pub mod Scripts
pub mod Bodies
pub mod Jobs
pub mod Drafts

pub mod Characters
pub mod Choices
pub mod Conditions
pub mod Grammar
pub mod Numbers
pub mod Outcomes
pub mod Readers

pub mod Fields
pub mod Forms
pub mod Grammar
pub mod Head
pub mod ModuleFile
pub mod Reading
pub mod Rows
pub mod Whole

pub mod Rules
pub mod Readers
pub mod Grammar
pub mod MapReaders
pub mod MapText
pub mod Faults
pub mod Spelling

-- Reading gives back what was put, and accepts nothing else.
pub mod Forms
pub mod Sequences

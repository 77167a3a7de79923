pub mod Bits
pub mod Closure
pub mod Flags
pub mod Found
pub mod Seen

pub mod Counted
pub mod Ends
pub mod KeptFronts
pub mod Replay
pub mod Words

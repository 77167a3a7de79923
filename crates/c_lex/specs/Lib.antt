pub mod Pieces
pub mod Runs
pub mod Punctuators
pub mod Cuts
pub mod Tokens
pub mod Readings
pub mod Lexemes
pub mod Nexts

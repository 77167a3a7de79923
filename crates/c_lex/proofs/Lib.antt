pub mod Fronts
pub mod Marks
pub mod Scans
pub mod Cuts
pub mod Search
pub mod WholeTexts
pub mod Lexemes
pub mod Nexts

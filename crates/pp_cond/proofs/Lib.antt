pub mod ChoiceLaws
pub mod GrammarLaws
pub mod JudgeLaws
pub mod NumberLemmas
pub mod OutcomeLemmas
pub mod ReaderSteps

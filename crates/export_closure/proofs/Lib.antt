pub mod BitLemmas
pub mod ClosureLaws
pub mod FlagLemmas
pub mod FoundLemmas
pub mod PlaceLemmas
pub mod RowLemmas

pub mod GroupLemmas
pub mod KeptLemmas
pub mod LawLemmas
pub mod MeaningLemmas
pub mod NameLemmas
pub mod OrderLemmas
pub mod TokenLemmas

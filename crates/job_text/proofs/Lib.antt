pub mod AnswerLemmas
pub mod FieldLemmas
pub mod EscapeLemmas
pub mod BodyLemmas
pub mod DraftLemmas
pub mod JobLemmas
pub mod ScriptLemmas

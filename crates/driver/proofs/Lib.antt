pub mod FrontLemmas
pub mod ReplayLemmas
pub mod ScriptLemmas

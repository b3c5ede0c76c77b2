pub mod AcceptedLemmas
pub mod AlikeLemmas
pub mod BoardsAlike
pub mod CountingLemmas
pub mod LegacyLemmas
pub mod LimitLemmas
pub mod MeaningLemmas
pub mod NormalLines
pub mod NormalStructure
pub mod PrintedLemmas
mod Rows
pub mod ScriptLemmas
pub mod ValuesAlike

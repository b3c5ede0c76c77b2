pub mod AltCounts
pub mod ChanceLemmas
pub mod GroupLemmas
pub mod HistoryLemmas
pub mod HoldLemmas
pub mod JudgingLemmas
pub mod OrderedLemmas
pub mod PassingLemmas
pub mod RangeLemmas
pub mod ReachLemmas
pub mod RowLemmas
pub mod SmallLemmas
pub mod SoundLemmas
pub mod TreeLemmas
pub mod TriggerLemmas
mod Vectors
pub mod VerdictLaws
pub mod VerdictLemmas
mod WarningRows

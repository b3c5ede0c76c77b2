pub mod ComparisonLemmas
pub mod FoundLemmas
pub mod SameComparison
pub mod UsesLemmas
pub mod SettlingLemmas
pub mod TakingLemmas

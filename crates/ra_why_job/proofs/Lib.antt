pub mod ChooseLemmas
pub mod NextLemmas
pub mod SayLemmas
pub mod WatchLemmas

pub mod FollowLemmas
pub mod JobLemmas
pub mod NextLemmas
pub mod PrintLemmas
pub mod ToldLemmas
pub mod WatchLemmas

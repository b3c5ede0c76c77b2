pub mod FollowLemmas
pub mod KeptLemmas
pub mod ReadLemmas
pub mod TextLemmas
pub mod WaitLemmas

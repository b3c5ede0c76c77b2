-- Groups, triggers and values that rest, and what they owe.
pub mod GroupLemmas
pub mod GroupRest
pub mod AlongRest
pub mod TriggerRest
pub mod SeenRest
pub mod Kept
pub mod Owed
pub mod OwedLaws
pub mod Keeping
pub mod SeenLaws
pub mod ValueRest
pub mod MoreRest
pub mod GoesOn
pub mod Lefts

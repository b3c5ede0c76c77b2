-- The law of cuts.
pub mod Items
pub mod Law
pub mod Presence

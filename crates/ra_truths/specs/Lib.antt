pub mod Comparisons
pub mod Found
pub mod Kept
pub mod Packing
pub mod Seen
pub mod Settling
pub mod Truths
pub mod Uses

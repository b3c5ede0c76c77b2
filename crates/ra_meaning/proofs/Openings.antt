-- What a set begins with, and what it keeps as an opening.
pub mod Again
pub mod Agreeing
pub mod Beside
pub mod Covered
pub mod Fits
pub mod Plain
pub mod Snapshots
pub mod Unplayed

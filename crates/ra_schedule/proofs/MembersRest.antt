-- Members that rest, and what they owe.
pub mod Frames
pub mod GoesOn
pub mod SeenAll
pub mod OneOn
pub mod Signals
pub mod SeesSame
pub mod SideBySideRows
pub mod AtMost
pub mod Turns
pub mod Woken
pub mod Counted
pub mod Kept
pub mod For
pub mod Judged
pub mod OwedRows

pub mod MembersRest
pub mod Resting
pub mod WhoReads

pub mod Codes
pub mod Giving
pub mod Importing
pub mod Judging
pub mod Places
pub mod Reasons
pub mod Texts

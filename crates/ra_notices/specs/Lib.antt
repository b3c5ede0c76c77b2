pub mod Keys
pub mod Notices
pub mod Noticing

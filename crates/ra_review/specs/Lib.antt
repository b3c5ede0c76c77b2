pub mod FirstLines
pub mod Judging
pub mod Lines
pub mod Passing
pub mod Reporting
pub mod Reviews
pub mod Scripts
pub mod Shown

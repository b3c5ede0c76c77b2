pub mod Cells
pub mod Courses
pub mod Keeping
pub mod Laid
pub mod Lazy
pub mod Numbers
pub mod Seen
pub mod Told

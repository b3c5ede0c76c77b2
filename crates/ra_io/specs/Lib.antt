pub mod Causes
pub mod Files
pub mod Sink
pub mod Held
pub mod SureFiles
pub mod MemFiles

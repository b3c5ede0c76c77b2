pub mod FormatDigits
pub mod Padding

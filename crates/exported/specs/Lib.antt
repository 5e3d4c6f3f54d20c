pub mod Version
pub mod Numbers
pub mod Fields
pub mod Buffers
pub mod Index

pub mod Bytes
pub mod Lookups
pub mod Chunks
pub mod Places
pub mod Files
pub mod Ready

pub mod Pext
pub mod Private
pub mod Points

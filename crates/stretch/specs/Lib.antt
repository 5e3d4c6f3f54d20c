pub mod Conflict
pub mod Permission
pub mod Claims
pub mod Private

pub mod Lookup
pub mod Calls
pub mod Private
pub mod Claims

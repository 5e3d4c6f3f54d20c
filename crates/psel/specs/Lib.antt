pub mod Psel
pub mod Private
pub mod Points

pub mod Counter
pub mod Portion
pub mod Private
pub mod Points

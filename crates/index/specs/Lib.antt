pub mod Index
pub mod Points
pub mod Claims

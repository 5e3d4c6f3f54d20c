pub mod Fields
pub mod Claims

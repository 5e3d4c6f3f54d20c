pub mod Text
pub mod Name
pub mod Lines
pub mod Claims

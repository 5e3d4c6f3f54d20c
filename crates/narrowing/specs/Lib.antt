pub mod Narrowing
pub mod Registers
pub mod Calls
pub mod Points
pub mod Claims

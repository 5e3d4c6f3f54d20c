pub mod Running
pub mod Refused

pub mod Adder
pub mod BoardPoints
pub mod Ready

pub mod Ready
pub mod Portions
pub mod BoardPoints

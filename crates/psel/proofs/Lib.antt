pub mod BoardPoints
pub mod Ready
pub mod Elements

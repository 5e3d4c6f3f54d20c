pub mod Differences
pub mod Curve
pub mod Stored
pub mod Placed
pub mod Board

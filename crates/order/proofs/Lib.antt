pub mod Parts
pub mod Changes
pub mod Touches
pub mod Counted
pub mod Positions
pub mod Tested
pub mod Runs
pub mod Reordered

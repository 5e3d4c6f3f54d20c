pub mod Lengths
pub mod Masks
pub mod Words
pub mod Packed
pub mod Parts
pub mod BoardPoints

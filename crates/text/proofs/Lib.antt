-- The laws of the lines that listing's proofs cite.
pub mod Append
pub mod Parts

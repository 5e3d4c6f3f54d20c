-- The laws that several proofs cite.
pub mod Over
pub mod Begins
pub mod Tables
pub mod Names
pub mod Quads

-- The definitions that the contracts cite.
pub mod Buffer
pub mod Private

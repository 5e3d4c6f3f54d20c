pub mod Banks
pub mod Touch
pub mod Rearranged
pub mod Tested
pub mod Steps
pub mod Private

pub mod Cases
pub mod WordLaws

pub mod Pick
pub mod Every

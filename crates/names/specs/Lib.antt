pub mod Names
pub mod OwnNames

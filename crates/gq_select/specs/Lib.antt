pub mod Choice
pub mod Meant
pub mod Runs
pub mod Touched
pub mod TouchedPlace
pub mod Views

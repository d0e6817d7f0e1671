pub mod Folder
pub mod Inputs
pub mod Reading
pub mod Loads
pub mod Reader
pub mod Coming

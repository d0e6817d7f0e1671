pub mod Fragments
pub mod Given
pub mod World
pub mod Views
pub mod Groups

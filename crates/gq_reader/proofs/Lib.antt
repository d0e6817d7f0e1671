pub mod Bounds
pub mod Reading
pub mod Taken
pub mod Readers
pub mod Comings

pub mod Rewrites
pub mod Executables

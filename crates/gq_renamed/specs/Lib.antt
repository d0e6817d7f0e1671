pub mod Names
pub mod Renamings
pub mod Renamed
pub mod Changed
pub mod Rewritten
pub mod Projects
pub mod Helping

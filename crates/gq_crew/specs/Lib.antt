pub mod Output
pub mod Runs
pub mod Crew
pub mod Helping

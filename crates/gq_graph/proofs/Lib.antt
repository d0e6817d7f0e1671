pub mod Marking
pub mod Searching
pub mod Turning
pub mod Ways
pub mod Walking
pub mod Collecting
pub mod Grouping
pub mod Gathering

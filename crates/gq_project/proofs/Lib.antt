pub mod Filters
pub mod Keys
pub mod DocumentLemmas

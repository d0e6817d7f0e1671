pub mod SelectionLemmas
pub mod Crossing
pub mod LastLemmas
pub mod PartLemmas

pub mod ForestLemmas
pub mod Trees
pub mod NameLemmas
pub mod ValueLemmas
pub mod Sameness
pub mod Crossing

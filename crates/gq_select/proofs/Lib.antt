pub mod LastMeant
pub mod MeantLemmas
pub mod RunLemmas
pub mod RunsFound
pub mod TouchedLemmas

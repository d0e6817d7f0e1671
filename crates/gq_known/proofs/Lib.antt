pub mod LearnedLemmas
pub mod MixedLemmas

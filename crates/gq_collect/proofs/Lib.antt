pub mod CollectLemmas
pub mod DirectiveWalks
pub mod FragmentLemmas
pub mod GroupLemmas

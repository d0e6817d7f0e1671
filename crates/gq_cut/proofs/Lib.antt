pub mod Propositions
pub mod RunLemmas
pub mod FragmentCut
pub mod Constant
pub mod VariableCut
pub mod GroupLemmas

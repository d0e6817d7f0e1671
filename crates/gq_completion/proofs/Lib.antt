pub mod TokenLemmas
pub mod VariableLemmas
pub mod LabelLemmas
pub mod FragmentLemmas
pub mod FieldLemmas
pub mod InnermostLemmas
pub mod CompletionLemmas

pub mod SelectionRules
pub mod FieldFaultLemmas

pub mod SelectedFields
pub mod FieldSelections
pub mod LeafFieldSelections
pub mod Arguments
pub mod Directives
pub mod Values
pub mod FieldFaults
pub mod Helping

pub mod Shapes
pub mod SameArguments
pub mod FieldsMerge
pub mod Helping

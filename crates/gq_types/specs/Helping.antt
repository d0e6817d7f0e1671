-- What only helps to prove that the code does what the definitions say. No contract of a public call is about it.
pub mod FieldTables
pub mod Index
pub mod PossiblePlaces
pub mod RequiredNames
pub mod Tables
pub mod UnderName

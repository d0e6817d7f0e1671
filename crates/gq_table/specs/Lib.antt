pub mod Rows
pub mod Views
pub mod Numbers
pub mod Json
pub mod Helping

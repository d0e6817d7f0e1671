pub mod Responses
pub mod Texts
pub mod Views
pub mod Helping

-- What is wrong with definitions that are equal but for their places, or for names that a rename changes.
pub mod Places
pub mod Types
pub mod OtherFields
pub mod ObjectTypes
pub mod Tokens
pub mod Names
pub mod Merging

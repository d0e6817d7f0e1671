-- Renames keep what every operation is answered.
pub mod Uses
pub mod GivenValues
pub mod Kept
pub mod Helping

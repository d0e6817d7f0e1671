-- Renames keep projects valid.
pub mod Valid

pub mod Coerced

pub mod Coerced
pub mod Literals
pub mod Leaves
pub mod Variables
pub mod Helping

pub mod Reach
pub mod Transposed
pub mod Components
pub mod Helping

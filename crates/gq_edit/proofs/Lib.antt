pub mod Making
pub mod Naming
pub mod Fitting
pub mod Placing
pub mod InOrder

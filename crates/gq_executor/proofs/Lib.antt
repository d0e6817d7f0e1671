pub mod Loops
pub mod Roots
pub mod OperationLemmas
pub mod Fields
pub mod PlanLemmas

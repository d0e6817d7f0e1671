pub mod Known
pub mod ExecutableDefinitions
pub mod MixedFaults
pub mod Helping

-- What only helps to prove that the code does what the definitions say. No contract of a public call is about it.
pub mod ExecVerdicts
pub mod Places
pub mod Printed
pub mod Runs
pub mod Verdicts

-- What only helps to prove that the code does what the definitions say. No contract of a public call is about it.
pub mod Trees

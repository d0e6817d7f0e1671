-- What is told of a file alone, whatever other files stand beside it.
pub mod Laws

-- What only helps to prove that the code does what the definitions say. No contract of a public call is about it.
pub mod Claims
pub mod Ends
pub mod Settled
pub mod Posting
pub mod Delivered
pub mod Handing
pub mod Sides

pub mod Buffered
pub mod Parted
pub mod Ownership
pub mod Helping

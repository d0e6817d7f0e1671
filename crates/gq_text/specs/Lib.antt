pub mod Place
pub mod Bytes
pub mod Change
pub mod Cut
pub mod Replaced
pub mod Order
pub mod Small

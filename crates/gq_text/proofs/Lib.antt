pub mod Steps
pub mod Splices
pub mod Cuts
pub mod Trips
pub mod Further
pub mod Rises
pub mod Floors

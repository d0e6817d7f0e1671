pub mod Frames
pub mod Faults
pub mod Standing
pub mod Driving
pub mod Laws
pub mod Helping

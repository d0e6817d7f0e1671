pub mod Lines
pub mod Frames
pub mod Cutting
pub mod Devices
pub mod Decoding
pub mod Actions
pub mod Encoding
pub mod Keys

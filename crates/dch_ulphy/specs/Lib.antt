pub mod Damaged
pub mod Frames
pub mod Given
pub mod Loaded
pub mod Read
pub mod Sent

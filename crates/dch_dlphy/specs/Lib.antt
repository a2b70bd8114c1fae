pub mod Frames
pub mod Kept
pub mod Loaded
pub mod Outcomes
pub mod Read
pub mod Sent

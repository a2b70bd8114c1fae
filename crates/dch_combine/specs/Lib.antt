pub mod Combined
pub mod Legs
pub mod Opened
pub mod Sent
pub mod Steps
pub mod Taken
pub mod Values

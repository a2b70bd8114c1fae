pub mod Lengths
pub mod Sending

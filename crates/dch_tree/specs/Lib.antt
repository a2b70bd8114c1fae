pub mod Faults
pub mod Tables
pub mod Rules
pub mod Channels
pub mod Sides
pub mod Bearers
pub mod Documents

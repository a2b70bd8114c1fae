pub mod Refusals
pub mod Sides
pub mod Bearers
pub mod Limits
pub mod Reading
pub mod Good
pub mod Changes

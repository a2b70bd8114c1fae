pub mod Calls
pub mod Ends
pub mod Texts
pub mod Peers
pub mod Meeting
pub mod Delivered
mod Examples
pub mod Lines
pub mod Asking
pub mod Units
pub mod Logs
pub mod Sides
pub mod History
pub mod Safe
pub mod Short

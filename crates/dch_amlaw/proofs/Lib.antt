pub mod Written
pub mod Heard
pub mod Flow
pub mod Direction
pub mod Handing
pub mod Hands
pub mod Lost
pub mod History
pub mod Short
mod Examples
pub mod Lossless
pub mod Listed
pub mod Receivers
pub mod Views

pub mod Sharing
pub mod Lists
pub mod Counting
pub mod Order
pub mod Idle
pub mod One

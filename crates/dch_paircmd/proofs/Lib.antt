pub mod Arriving
pub mod Handing
pub mod Handling
pub mod Leading
pub mod Queues

pub mod Handing
pub mod History
pub mod Queue
pub mod Received
pub mod Receiving
pub mod Sending
pub mod Stored

pub mod Ends
pub mod Overlong
pub mod Queues
pub mod Rules
pub mod Handlers
pub mod Texts

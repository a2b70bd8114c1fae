pub mod Bytes
pub mod ReceiverBytes
pub mod Limits
pub mod Reports

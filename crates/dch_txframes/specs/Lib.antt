pub mod BlockLending
pub mod Lending
pub mod Octets
pub mod Opened
pub mod Sending
pub mod Values

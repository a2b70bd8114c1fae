pub mod Buffers
pub mod Damage
pub mod Lending
pub mod Opened
pub mod Tables
pub mod Turns
pub mod Waiting

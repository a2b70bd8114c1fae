pub mod Filling
pub mod Pdus
pub mod Taking
pub mod Stored

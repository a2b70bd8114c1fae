pub mod Chunks
pub mod Content
pub mod Cuts
pub mod Rows
pub mod Sdus

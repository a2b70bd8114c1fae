pub mod Contents
pub mod Flags
pub mod Lending
pub mod Lent
pub mod Spreading

pub mod Combinations
pub mod SameSizes
pub mod Outcomes
pub mod Places
pub mod GoodSides
pub mod GoodBearers

pub mod Answers
pub mod Forms
pub mod Shape
pub mod Steps
pub mod Taken
pub mod Longest
pub mod Back

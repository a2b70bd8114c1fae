pub mod State
pub mod Answers
pub mod Standing
pub mod History
pub mod RunStanding
pub mod Running
pub mod Ends
pub mod Law

pub mod StatusItems
pub mod Flights
pub mod StatusItem
pub mod Telling
pub mod RetxBuffer
pub mod Standing
pub mod Polling
pub mod RequestSet

pub mod IubFrames
pub mod Lines
pub mod RxFrames
pub mod Standing
pub mod Traces
pub mod Values
pub mod Outputs

pub mod IubFrames
pub mod RxFrames
pub mod Traces
pub mod Outputs

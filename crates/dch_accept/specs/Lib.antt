pub mod Answers
pub mod BlockLending
pub mod BlockRoom
pub mod Blocks
pub mod FrameLending
pub mod FrameRoom
pub mod Cells
pub mod Frames
pub mod HeldSets
pub mod Padded
pub mod Plans
pub mod Reports
pub mod Rooms
pub use Rattle.dch_collision.specs.Clear as CollisionClear
pub use Rattle.dch_collision.specs.Collisions

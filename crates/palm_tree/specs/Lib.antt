pub mod Below
pub mod BuiltLeaves
pub mod Floors
pub mod Jumps
pub mod LookLanes
pub mod TreeValue
pub mod Walk

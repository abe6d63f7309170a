pub mod RootLeft
pub mod RootStill
pub mod Sweeping

pub mod Roots
pub mod Sweeps

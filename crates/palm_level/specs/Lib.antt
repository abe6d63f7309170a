pub mod Families
pub mod Groups
pub mod Plans
pub mod Runs
pub mod Splices
pub mod Tasks
pub mod Works

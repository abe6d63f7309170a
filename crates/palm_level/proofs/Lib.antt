pub mod Bare
pub mod Bounds
mod Ending
pub mod Families
mod Finishing
mod LaterParts
mod Lending
pub mod LevelEnds
mod LevelFacts
mod LevelFits
pub mod Parent
mod PuttingBack
mod RunFronts
mod Running
pub mod SoundSites
mod Splicing
mod Split
pub mod Taking
pub mod Within

mod EvenShares
pub mod RunItems

pub mod Beginnings
mod Filtered
pub mod KeptOrder
pub mod LaterLeaves
pub mod LeavesAnswer
mod LeavesRun
mod LeafStands
mod LoadFacts
pub mod Lendings
pub mod LentIds
pub mod Loads
pub mod Opened
pub mod ParentLows
pub mod PlanRoom
pub mod Ranges
pub mod SettleSteps
pub mod Settlings
pub mod Spreads
pub mod StagePass
pub mod TableAnswers
pub mod Working

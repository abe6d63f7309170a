pub mod HeldRows
pub mod RisingRows
pub mod RisingLows
pub mod TopLevels
pub mod SameNodes
pub mod PutRows
pub mod HeldSteps

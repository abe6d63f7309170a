pub mod InnerNode
pub mod LeafRows
pub mod PathSteps

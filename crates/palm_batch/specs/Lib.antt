pub mod Costs
pub mod OpenCalls
pub mod Passing
pub mod Replies

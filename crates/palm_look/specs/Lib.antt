pub mod EditKeys
pub mod Met
pub mod Shares
pub mod Unmet

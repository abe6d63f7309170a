pub mod SortedKeys
pub mod NumberFronts
pub mod UnmetReplies
pub mod JudgedShares

mod AnsweredBatches
mod ClosedTrees
mod JoinedAnswers
mod JoinedReplies
mod LimitedRows
mod ListReplies
pub mod LevelsDone
pub mod OpenTrees
pub mod PassedTrees
mod RateReplies
mod RowCounts
mod SecondPasses
mod OpenReplies

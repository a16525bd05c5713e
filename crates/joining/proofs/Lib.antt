pub mod Walks
pub mod Struck
pub mod RunLists
pub mod EnterSteps
pub mod CountSteps
pub mod Finish

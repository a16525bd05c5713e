pub mod Groups
pub mod Limits
pub mod Examples
pub mod JoinLaws

pub mod Dots
pub mod Places
pub mod Orders
pub mod Runs
pub mod ContextLaws

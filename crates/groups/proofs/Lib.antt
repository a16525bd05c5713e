pub mod Meets
pub mod Keeps
pub mod Joins
pub mod Converges
pub mod Limits

pub mod Kinds
pub mod Models
pub mod Examples

pub mod Contexts
pub mod Merging
pub mod Examples

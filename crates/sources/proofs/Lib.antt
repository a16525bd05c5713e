pub mod Lists
pub mod LaidOut
pub mod Parts
pub mod ReadGroups
pub mod Filling
pub mod Walks

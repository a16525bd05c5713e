pub mod Stepping
pub mod Dots
pub mod Seen
pub mod Resume
pub mod Scans
pub mod ReadBack
pub mod Rewrites

pub mod Questions
pub mod Strikes
pub mod Entering
pub mod Outcomes
pub mod StoreParts

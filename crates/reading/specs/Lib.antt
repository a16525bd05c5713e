pub mod Faults
pub mod Reading
pub mod Stands
pub mod Seen
pub mod SpellingLaws

pub mod Spelling
pub mod Reading
pub mod Copying
pub mod Writing

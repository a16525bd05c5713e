pub mod Sources
pub mod Layouts
pub mod Readings
pub mod LayoutLaws
pub mod Walks

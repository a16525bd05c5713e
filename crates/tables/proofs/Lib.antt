pub mod Lead
pub mod Shift
pub mod Found
pub mod RowLaws
pub mod TableLaws
pub mod Putting

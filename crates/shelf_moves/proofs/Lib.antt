pub mod FirstLaws
pub mod MoveLaws
pub mod OrderLaws
pub mod BackToEnd

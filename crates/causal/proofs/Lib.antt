pub mod OrderLaws
pub mod RunFacts
pub mod RunSets
pub mod RunHighest

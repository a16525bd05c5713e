pub mod Items
pub mod Faults
pub mod Puts
pub mod Sound
pub mod Laws
pub mod Walks
pub mod PartEntries

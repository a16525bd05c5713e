pub mod ItemOrder
pub mod Held
pub mod Stays
pub mod Lookups
pub mod Walking

pub mod Parcels
pub mod Layout
pub mod Extents
pub mod Rings
pub mod Slotted
pub mod Meanings

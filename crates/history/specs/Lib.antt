pub mod Sets
pub mod Books
pub mod Worlds
pub mod History
pub mod Law
pub mod Examples
pub mod ShutOut
pub mod Sound

pub mod Buffered
pub mod Held
pub mod Laws
pub mod Seen

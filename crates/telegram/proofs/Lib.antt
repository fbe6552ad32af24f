mod Bytes
mod Entries
mod Sound
pub mod Orders

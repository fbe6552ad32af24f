pub mod Halving
pub mod Places
pub mod Rising
pub mod Writes

pub mod Bytes
pub mod Ends
pub mod Held
pub mod Lines
pub mod Numbers
pub mod Requests
pub mod Setups
pub mod Words

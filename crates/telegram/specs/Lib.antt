pub mod Refusals
pub mod Decode
pub mod Records
pub mod Readers
pub mod Whole
pub mod Laws

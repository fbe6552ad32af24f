pub mod Lists
pub mod Gather

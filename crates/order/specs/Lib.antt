pub mod Cells
pub mod Orders
pub mod Refusals
pub mod Laws

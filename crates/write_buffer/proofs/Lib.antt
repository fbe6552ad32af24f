pub mod Bounds
pub mod Laid
pub mod Layered
pub mod Table

pub mod Slots
pub mod Listings
pub mod Cells
pub mod Rows
pub mod Tuples
pub mod Prefixes
pub mod Pushes

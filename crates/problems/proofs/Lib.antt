pub mod Placements
pub mod Bounds
pub mod Tables
pub mod Amendments

pub mod Searches
pub mod Finds
pub mod Places
pub mod Theorems

pub mod Spelled
pub mod Parts
pub mod Listings
pub mod Pricings

pub mod Sources
pub mod Greaters

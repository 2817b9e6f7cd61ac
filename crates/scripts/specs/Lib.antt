pub mod Costs
pub mod Lines

pub mod Parts
pub mod Shows
pub mod Chain
pub mod Model
pub mod Promise
pub mod Examples

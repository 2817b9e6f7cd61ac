pub mod Rules
pub mod Layouts
pub mod Headings
pub mod Passes
pub mod Tables
pub mod Described
pub mod Costs
pub mod Loads

pub mod Problems
pub mod Records
pub mod Rules
pub mod Outlines

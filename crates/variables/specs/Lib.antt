pub mod Refusals
pub mod Lists
pub mod Assignments
pub mod Records
pub mod Rules

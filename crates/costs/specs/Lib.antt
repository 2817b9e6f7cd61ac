pub mod Structures
pub mod Kinds

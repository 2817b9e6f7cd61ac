pub mod Lines
pub mod Messages
pub mod Records
pub mod Pages

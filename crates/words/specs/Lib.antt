pub mod Faults
pub mod Words
pub mod Runs
pub mod Numbers
pub mod Readings
pub mod Ruled
pub mod Readers

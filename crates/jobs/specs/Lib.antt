pub mod Stages
pub mod Invariants
pub mod Standings
pub mod Calls
pub mod Loading
pub mod Planning

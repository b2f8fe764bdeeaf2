-- Laws of `simulation`, and document 01's example.
pub mod Rows
pub mod Outcomes
pub mod Parsed
pub mod Facts
pub mod Concluding
pub mod Lines
pub mod Runs
pub mod EveryYard
pub mod EveryOutput
pub mod Example

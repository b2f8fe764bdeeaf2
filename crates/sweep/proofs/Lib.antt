-- Laws of the load's runs and table, that demand 3 speaks of every load, and a small load computed.
pub mod Drawing
pub mod Tables
pub mod Outputs
pub mod EveryLoad
pub mod Example

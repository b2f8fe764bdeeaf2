-- To believe, all: demand 1, exchanged neighbours at the calls, and the ◆ table.
pub mod Checks
pub mod CallChecks
pub mod Demand1
pub mod Exchange
pub mod Table

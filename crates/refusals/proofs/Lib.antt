-- The proof of demand 1, exchanged neighbours at the calls, worked examples of the host's calls, and the ◆ table computed.
pub mod First
pub mod Host
pub mod Demand1
pub mod Exchange
pub mod Examples
pub mod Table

-- The proof of demand 3 for a host: a list of exported calls matches a list of the node's calls, for which it is proved.
pub mod Answers
pub mod Calls
pub mod Shown
pub mod Strays
pub mod Sees
pub mod Starts
pub mod Forgotten
pub mod Seen
pub mod HostDemand3
pub mod Examples

-- Laws that the crates above cite.
pub mod First
pub mod Calls

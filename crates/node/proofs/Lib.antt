-- Laws that the proofs of this crate and of the crates above cite.
pub mod Ranges
pub mod Shared
pub mod Sending
pub mod Offering
pub mod Delivering
pub mod Taking
pub mod Cases
pub mod Told

-- Laws that the proofs of this crate and of the crates above cite.
pub mod Sound
pub mod Walks
pub mod Arrived
pub mod Merging

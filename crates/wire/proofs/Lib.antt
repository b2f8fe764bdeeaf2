-- Laws that the proofs of this crate and of the crates above cite.
pub mod Bytes
pub mod Trailer
pub mod Exchange
pub mod Tests

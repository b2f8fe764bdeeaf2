-- Worked examples, and laws that the proofs of this crate and of the crates above cite.
pub mod Examples
pub mod Parts
pub mod Laws

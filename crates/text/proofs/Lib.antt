-- Laws that the proofs of this crate and of the crates above cite.
pub mod Pieces
pub mod Fields
pub mod Print

-- Laws that the proofs of this crate cite, and worked examples.
pub mod Parts
pub mod Caps
pub mod Examples

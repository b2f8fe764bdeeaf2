-- Laws that the proofs of this crate and of the crates above cite.
pub mod Sums
pub mod Matrix
pub mod Columns
pub mod Array
pub mod Choice
pub mod Stores
pub mod Bounds
pub mod Cleared
pub mod Merged

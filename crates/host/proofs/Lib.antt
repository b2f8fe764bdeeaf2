-- Laws that the proofs of this crate cite.
pub mod Left
pub mod Refused
pub mod TrailTold
pub mod Written

-- The proofs that every call hands back a sound record and a sound queue, and how much of the frame output it can fill.
pub mod Matrices
pub mod States
pub mod Deliveries
pub mod HandedBack
pub mod Wrong
pub mod OutputSizes

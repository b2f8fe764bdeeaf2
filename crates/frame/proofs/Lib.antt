-- Laws that the proofs of this crate and of the crates above cite.
pub mod EntryLists
pub mod Writing
pub mod Checks
pub mod Passed
pub mod Lookup
pub mod Rising
pub mod Parse
pub mod Written
pub mod Reading
pub mod Carried
pub mod RoundTrip
pub mod Parts
pub mod Framing
pub mod Frames
pub mod Exchange

-- Laws of the hold-back queue, for the proofs here and for callers.
pub mod Slots
pub mod Changes
pub mod Checking
pub mod Held
pub mod Searched
pub mod Parts
pub mod Trying
pub mod Origins
pub mod Zero
pub mod Keys
pub mod Pairs
pub mod Filling
pub mod Queues
pub mod Passing

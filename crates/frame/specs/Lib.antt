-- To believe, all, in the order of document 01's section on the frame: the header, the entries, the whole frame, frames end to end,
-- the refusals 8 to 11, and the round trip; then, of document 02 (ix), neighbours exchanged.
pub mod Header
pub mod Entries
pub mod Frame
pub mod Frames
pub mod Refusals
pub mod RoundTrip
pub mod Exchange

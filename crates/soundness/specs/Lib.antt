-- To believe, all: that every call hands back a record and a queue that the next call takes, and how much of the frame output a call can fill.
pub mod HandedBack
pub mod OutputSizes

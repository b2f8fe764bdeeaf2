-- To believe, all: the limits, fields of several bytes, the trailer, and neighbours exchanged in front of its sum.
pub mod Limits
pub mod Bytes
pub mod Trailer
pub mod Exchange

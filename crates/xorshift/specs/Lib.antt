-- To believe, all: Xorshift, the generator, and NeverZero, that from a seed of 32 bits that is not 0 it never stops.
pub mod Xorshift
pub mod NeverZero

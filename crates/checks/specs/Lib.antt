-- To believe, all: a list of checks, the first that is met, a call by its checks, and what a call says by them.
pub mod Checks

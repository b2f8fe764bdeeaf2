-- To believe, for the yard: Start, whether it can start, Outcome, what a step leads to, Steps, its steps on the world of a list, and Reached, a world that a
-- list leads to.
-- Vocabulary of inner contracts: Told, what the source says of a step in these words, and Stored, how that world is stored.
pub mod Start
pub mod Outcome
pub mod Reached
pub mod Steps
pub mod Told
pub mod Stored

-- To believe, for the yard and the load: State, the state of a simulation and what a step does to it, Delays, what a delay is in the history of a list, and
-- OfList, a state that demand 3 speaks of and whose fourth T number is the number of delays.
-- Vocabulary of inner contracts: Stands, how a state is stored.
pub mod State
pub mod Delays
pub mod OfList
pub mod Stands

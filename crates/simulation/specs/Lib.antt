-- To believe: Yard, the yard's lines and its output, Run, a run over lent bytes, and EveryYard, that demand 3 speaks of every yard and of what it prints.
-- Vocabulary of inner contracts: Asked, Commanded, the step of a command, and Stands, what a line leaves of a stored yard.
pub mod Yard
pub mod Run
pub mod EveryYard
pub mod Asked
pub mod Commanded
pub mod Stands

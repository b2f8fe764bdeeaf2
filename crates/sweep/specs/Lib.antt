-- To believe: Load, the load's runs and its table, Run, a run over lent bytes, and EveryLoad, that demand 3 speaks of every load.
-- Vocabulary of inner contracts: Drawn, the step that a draw asks for.
pub mod Load
pub mod Drawn
pub mod Run
pub mod EveryLoad

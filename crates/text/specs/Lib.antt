-- To believe, for the yard and the load: Pieces, Fields, the number of a field, Print, a printed line, and Output, a run that prints into a lent output.
-- Vocabulary of inner contracts: Before, where a byte stands, and Wrote, what is written.
pub mod Pieces
pub mod Before
pub mod Fields
pub mod Print
pub mod Wrote
pub mod Output

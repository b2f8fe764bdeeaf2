-- To believe, all: the step that a draw makes.
pub mod Draws

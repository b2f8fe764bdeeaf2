-- To believe, all: the matrix as a function of row and column, its array, and the message.
pub mod Matrix
pub mod Array
pub mod Message

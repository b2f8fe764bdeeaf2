-- To believe, for the yard: Commands, the commands of its lines, and FirstLine, its first line.
pub mod Commands
pub mod FirstLine

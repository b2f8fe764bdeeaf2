-- To believe, all: Request, what an input asks for, and Refusal18, when it is refused.
pub mod Request
pub mod Refusal18

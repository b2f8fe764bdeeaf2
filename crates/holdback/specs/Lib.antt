-- To believe: Slots, the hold-back queue (document 01: the shelf) as bytes, and WrongQueue, check 4.
-- Vocabulary of inner contracts: Places, CheckedQueue, what a function asks of a queue, and Steps, the steps of check 4.
pub mod Slots
pub mod Places
pub mod WrongQueue
pub mod CheckedQueue
pub mod Steps

-- To believe: View, the protocol's node of a record's fields, and 12 to 14 in rising order.
-- Vocabulary of inner contracts: Tests, the tests of one entry, and CheckedFrame, what a function asks of a frame's bytes.
pub mod View
pub mod Tests
pub mod CheckedFrame

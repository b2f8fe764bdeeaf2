-- To believe, all: the record rules (checks 1 and 2). Check 5 is `at_limit` of the protocol.
pub mod Rules

-- To believe: Sizes, Record, the four answers SetUpAnswer, SendAnswer, OfferAnswer and DeliverAnswer with Delivered, SetUp, Answers,
-- Told, what the source's answers say in these, and Calls, what each call leaves for its caller.
-- Vocabulary of inner contracts: CallRefusals, the refusals of each call as numbers, and Taken, what taking in a frame leaves.
pub mod Sizes
pub mod Record
pub mod SetUpAnswer
pub mod SendAnswer
pub mod OfferAnswer
pub mod Delivered
pub mod DeliverAnswer
pub mod SetUp
pub mod Answers
pub mod Told
pub mod Calls
pub mod CallRefusals
pub mod Taken

-- To believe, in document 01's order: Node, Answer, Trim, Send, Offer, Deliver, the steps on messages.
-- World, Order and Demand3 are lists and demand 3 on messages, a step of the proof: the promise is demand 3 on bytes, in `causality`.
pub mod Node
pub mod Answer
pub mod Trim
pub mod Send
pub mod Offer
pub mod Deliver
pub mod World
pub mod Order
pub mod Demand3

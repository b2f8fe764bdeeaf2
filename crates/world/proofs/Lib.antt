-- Laws of `world`: frames in a log, the frames that a call wrote, worlds that a list leads to, a step by its cases, and a world that is stored at the start
-- and stays so.
pub mod Logs
pub mod Written
pub mod Reach
pub mod Cases
pub mod Simulated
pub mod Keeping
pub mod Queues
pub mod Starts
pub mod Sends
pub mod Offers
pub mod Delivers

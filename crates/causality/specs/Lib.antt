-- To believe, all: demand 3 (over the calls of `node`, whose definitions must be read first), its last part for each destination, the refusals of a list,
-- that no frame is accepted twice, who may say what, the ceiling on extra frames, and how long frames are.
pub mod Demand3
pub mod EachDestination
pub mod ListRefusals
pub mod AcceptedOnce
pub mod Rights
pub mod Ceiling
pub mod FrameSizes

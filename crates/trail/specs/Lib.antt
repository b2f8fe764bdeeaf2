-- To believe, in this order: Sound, a frame on its own; Trail, frames end to end and where each is; Windows, the largest count by its plain definition;
-- Cursor, what a walk carries along; Walk, what the walk shows and answers; Step, the walk in steps; Write, one frame written on;
-- WriteAnswer, StepAnswer and WalkAnswer, what the calls answer, with the number and the values of each case. Proved of these, and to
-- believe as statements: LargestMeans, StepsWalk, Trails, FrameAlone, Exchange and Examples. SoundLast is vocabulary of an inner contract.
pub mod Sound
pub mod Trail
pub mod Windows
pub mod Cursor
pub mod Walk
pub mod Step
pub mod WriteAnswer
pub mod StepAnswer
pub mod WalkAnswer
pub mod Write
pub mod LargestMeans
pub mod StepsWalk
pub mod Trails
pub mod FrameAlone
pub mod Exchange
pub mod Examples
pub mod SoundLast

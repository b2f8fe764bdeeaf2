-- Laws of the trail's definitions, and the theorems about them.
pub mod Lone
pub mod Ends
pub mod Stepping
pub mod Windows
pub mod Carried
pub mod LargestMeans
pub mod Walks
pub mod Trails
pub mod StepsWalk
pub mod Looping
pub mod FrameAlone
pub mod Exchange
pub mod Examples

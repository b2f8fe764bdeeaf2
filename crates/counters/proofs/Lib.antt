-- What the extras share means, what a step does to the delays, and examples.
pub mod ShareMeans
pub mod Delays
pub mod Example

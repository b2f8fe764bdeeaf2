-- To believe, for the yard and the load, all: Counted, how each step changes the counters, and ShareMeans, what the extras share means and that the counters keep it.
pub mod Counted
pub mod ShareMeans

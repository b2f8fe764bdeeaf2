-- To believe, all: demand 3 for a host (over the exported calls of `host`, whose definitions must be read first, in the words of `causality`).
pub mod HostDemand3

-- That the generator never stops, and laws that the crates above cite.
pub mod NeverZero

-- That our table is what the request's words say, and laws that the crates above cite.
pub mod Groups
pub mod OursMeans

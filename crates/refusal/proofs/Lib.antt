-- Laws of the numbers.
pub mod Laws

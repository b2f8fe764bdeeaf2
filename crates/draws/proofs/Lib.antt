-- What the steps of draws never do wrong: laws for the crates above.
pub mod Laws

-- To believe: Image, the image of a record, 20, sound images, and their laws.
-- Vocabulary of inner contracts: Stores, a record with one field changed.
pub mod Image
pub mod Stores

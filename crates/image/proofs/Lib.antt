-- Laws of images: numbers of four bytes, an image that is read, a sound image and its record, an image that is written.
pub mod Numbers
pub mod Reading
pub mod Images
pub mod Stored

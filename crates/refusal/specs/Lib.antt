-- To believe: Numbers, document 01's table.
pub mod Numbers

-- To believe: Exports, what the exported run gives back and leaves.
pub mod Exports

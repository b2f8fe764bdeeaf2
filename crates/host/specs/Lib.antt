-- To believe, all: what each exported call leaves for its caller, the trail's among them (over images, whose definitions must be read first).
pub mod Exports
pub mod TrailExports

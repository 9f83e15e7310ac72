-- Openings that are good, and the bounds within which runs from them stay.
pub mod Openings
pub mod Regions
pub mod Bounds
pub mod Boards

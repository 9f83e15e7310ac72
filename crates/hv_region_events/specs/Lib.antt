-- Regions of guests that are added and dropped on a board.
pub mod Regions

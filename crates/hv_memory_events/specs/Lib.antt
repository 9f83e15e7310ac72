-- Files that are loaded into the memory of guests, and looks at it, on a board.
pub mod Reached

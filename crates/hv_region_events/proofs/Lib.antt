-- Lemmas of regions that are added and dropped on a board.
mod Rows
mod Standing
mod Finding
mod Made

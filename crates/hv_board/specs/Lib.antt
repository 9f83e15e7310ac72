-- The components of a board on one thread.
pub mod Places
pub mod Held
pub mod Done
pub mod Carrying
pub mod Board
pub mod Holds
pub mod Lifted
pub mod Logged
pub mod Started

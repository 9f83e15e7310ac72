-- Steps made on a board.
pub mod Happened
pub mod Sound
pub mod Granted
pub mod Values
pub mod Vcpus
pub mod Plain

pub mod State
pub mod Registers

pub mod Meaning
pub mod Registers

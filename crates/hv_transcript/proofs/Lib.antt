pub mod Lines
pub mod Interrupts
pub mod Sessions
pub mod Terminals
pub mod Told

pub mod Registers
pub mod Access
pub mod Uart
pub mod Plic
pub mod Timer
pub mod Device

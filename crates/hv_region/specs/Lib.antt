pub mod Addresses
pub mod Windows
pub mod Plans

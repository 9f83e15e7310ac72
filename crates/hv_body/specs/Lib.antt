pub mod Memory
pub mod Windows
pub mod Contents
pub mod Body
pub mod Rules

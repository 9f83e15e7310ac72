pub mod Guests
pub mod Run
pub mod Windows
pub mod Answers
pub mod Rows
pub mod Legal

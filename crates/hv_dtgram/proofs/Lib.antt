pub mod Reading
pub mod Lexing
pub mod Gathering
pub mod Lifting
pub mod Found

pub mod Class
pub mod Blank
pub mod Values
pub mod Tokens

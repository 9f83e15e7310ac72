pub mod Numbers
pub mod Blanks
pub mod Strings

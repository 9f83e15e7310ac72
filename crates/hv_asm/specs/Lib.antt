-- The lines of assembler text, the words that they stand for, and what a text assembles to.
pub mod Operand
pub mod Syntax
pub mod Line
pub mod Assembly
pub mod Candidates
pub mod Forms
pub mod Image
pub mod Reading
pub mod Adding

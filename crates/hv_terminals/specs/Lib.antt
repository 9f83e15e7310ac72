-- A terminal's program in code.
pub mod Plans
pub mod Scripts
pub mod Due
pub mod Answer
pub mod Work
pub mod Task
pub mod Session
pub mod Terminal
pub mod Adding
pub mod Ready

pub mod Line
pub mod Words
pub mod Written
pub mod Reading
pub use Rattle.hv_step.specs.Words as Steps
pub use Rattle.hv_answer.specs.Reply

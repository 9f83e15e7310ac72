pub mod Payload
pub mod Refused
pub mod Reply
pub mod Reading
pub use Rattle.hv_data.specs.Data
pub use Rattle.hv_refusal.specs.Refusal
pub use Rattle.hv_look.specs.Look
pub use Rattle.hv_name.specs.StepName

pub mod Refusal
pub mod Node
pub mod Reading
pub use Rattle.hv_text.specs.Path
pub use Rattle.hv_text.specs.Number
pub use Rattle.hv_data.specs.Data
pub use Rattle.hv_dtree.specs.Names

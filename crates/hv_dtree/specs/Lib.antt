pub use Rattle.hv_text.specs.Front
pub mod Names
pub mod Nodes
pub mod Values

pub use Rattle.hv_dtree.specs.Nodes
pub use Rattle.hv_dtgram.specs.Contents
pub mod Printed
pub mod Values

pub use Rattle.hv_exec.specs.Fields
pub mod Formats
pub mod Table
pub mod Packing
pub mod Encoding

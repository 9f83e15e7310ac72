pub mod Line
pub mod Numbers
pub mod Host
pub mod Program
pub mod Boot
pub mod Generated
pub use Rattle.hv_bundle.specs.Bundle

pub mod Look
pub use Rattle.hv_data.specs.Data

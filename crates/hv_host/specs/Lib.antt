pub mod Boards
pub mod Rules
pub use Rattle.hv_dts.specs.Reading
pub use Rattle.hv_plan.specs.Settings
pub use Rattle.hv_plan.specs.Guests

-- The lines of scripts and the commands that they give.
pub mod Words
pub mod Places
pub mod Text
pub mod Spelled
pub mod Commands
pub mod Rows
pub mod Arguments
pub mod Said
pub mod Print
pub use Rattle.hv_text.specs.Lines
pub use Rattle.hv_text.specs.Number
pub use Rattle.hv_text.specs.Path

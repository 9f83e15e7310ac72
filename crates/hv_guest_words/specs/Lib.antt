-- The lines of commands on guests.
pub mod Table
pub mod GuestRows
pub mod GuestCommands
pub use Rattle.hv_words.specs.Words
pub use Rattle.hv_words.specs.Text
pub use Rattle.hv_words.specs.Spelled
pub use Rattle.hv_words.specs.Commands
pub use Rattle.hv_words.specs.Rows
pub use Rattle.hv_words.specs.Arguments
pub use Rattle.hv_words.specs.Said
pub use Rattle.hv_words.specs.Print
pub use Rattle.hv_text.specs.Number
pub use Rattle.hv_text.specs.Path

-- What the laws say, and who owns a guest.
pub mod Lines
pub mod Owners
pub mod Orders

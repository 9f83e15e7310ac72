pub mod Guests
pub mod Said
pub mod Keeps

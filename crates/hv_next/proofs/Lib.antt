mod Sources
mod Told
pub mod Guests
pub mod Unique
mod Scripts
pub mod Boots
mod Turns
pub mod Rounds

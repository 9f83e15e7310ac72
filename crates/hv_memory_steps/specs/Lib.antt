-- What the contracts of the steps that reach memory speak of.
pub mod Hands
pub mod Fetches
pub mod Accesses
pub mod Ranges

pub mod Pins
pub mod Each
pub mod Places
pub mod Asks
pub mod OwedLemmas
pub mod HartLemmas

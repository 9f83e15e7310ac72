-- Lemmas of the steps on guests and their regions.
pub mod Refusing
pub mod Admitted
pub mod Carried
pub mod Answered
pub mod Standing

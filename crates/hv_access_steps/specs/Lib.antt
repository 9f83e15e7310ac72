-- What the contracts of the steps that reach memory at parts speak of.
pub mod First
pub mod Hands

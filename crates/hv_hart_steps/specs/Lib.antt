-- What the contracts of harts' steps say of the components that they touch.
pub mod Allowed
pub mod Balanced

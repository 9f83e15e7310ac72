-- What terminals have shown.
pub mod Telling
pub mod Kept
pub mod Told

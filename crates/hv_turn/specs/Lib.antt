-- History locks: histories, the lock and its handles as contracts see them, and the rule beneath.
pub mod History
pub mod Passes
pub mod Rule

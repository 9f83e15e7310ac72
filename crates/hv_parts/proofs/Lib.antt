-- Lemmas of components that stand in one list.
pub mod Lists
pub mod Directories

-- Lemmas of terminals' steps at the components that they touch.
pub mod Departing
pub mod Leaving
pub mod FilesSteps

-- Lemmas of lists of components and of the parts that are lifted.
pub mod Orders
pub mod Admitted
pub mod Back
pub mod Lifts
pub mod Found
pub mod Ends
pub mod Touching

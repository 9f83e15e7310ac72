-- Which steps are made on guests, and what is wanted of them.
pub mod Kinds
pub mod Owed

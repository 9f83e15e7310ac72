pub mod Splits
pub mod Foreign
pub mod Pairs
pub mod Listed
pub mod Numerals
pub mod Composed
pub mod DataLemmas

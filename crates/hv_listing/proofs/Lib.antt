pub mod FieldLemmas
pub mod Entries
pub mod Entry

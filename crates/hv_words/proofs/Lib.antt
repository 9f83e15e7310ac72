pub mod WordLemmas
pub mod ScriptLemmas
pub mod ArgumentLemmas
pub mod TextLemmas
pub mod Unambiguous
pub mod PrintLemmas
pub mod FoundLemmas
pub mod SaidLemmas

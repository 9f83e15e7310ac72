pub mod WindowLemmas
pub mod FormLemmas

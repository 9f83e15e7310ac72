pub mod Texts
pub mod Pieces
pub mod Faults
pub mod Parts
pub mod Nests
pub mod RuleLemmas
pub mod Keeps
pub mod HostKeeps

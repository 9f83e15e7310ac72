pub mod FetchLemmas
pub mod AccessLemmas
pub mod RangeLemmas
pub mod LookLemmas

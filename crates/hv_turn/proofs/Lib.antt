pub mod HistoryLemmas
pub mod PassLemmas
pub mod RuleLemmas
pub mod SeatLemmas

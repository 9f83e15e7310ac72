pub mod PairLemmas
pub mod LogLemmas

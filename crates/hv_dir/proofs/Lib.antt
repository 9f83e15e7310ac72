pub mod PoolLemmas
pub mod Places

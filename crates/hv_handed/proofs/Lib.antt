-- Lemmas of what actors learn.
pub mod Learnt

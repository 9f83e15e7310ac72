-- What the proofs of choices share.
pub mod Heads

-- What is known of a step of a terminal that may happen.
pub mod Replied

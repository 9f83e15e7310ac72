pub mod Strings
pub mod Counts
pub mod Numbers
pub mod Nodes

pub mod Counts
pub mod Told
pub mod Texts
pub mod Named
pub mod Exact

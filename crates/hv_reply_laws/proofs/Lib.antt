pub mod Slots
pub mod Touched
pub mod Replies
pub mod Regions
pub mod Memory

pub mod Order
pub mod Entries
pub mod Folder
pub mod Way
pub mod Changes

pub mod Additions
pub mod Admission
pub mod Regions

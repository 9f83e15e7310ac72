-- When the directory refuses a step, and what stands beside the directory where a region is added or dropped.
pub mod Refused
pub mod Regions

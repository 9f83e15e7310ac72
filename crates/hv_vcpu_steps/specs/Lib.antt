-- What the contracts of VCPUs' steps speak of.
pub mod Departures
pub mod Instructions

-- What steps hand over in code, and when components take them.
pub mod Given
pub mod Takes
pub mod Told

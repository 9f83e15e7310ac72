pub mod Directory
pub mod Pool

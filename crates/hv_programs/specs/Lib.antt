pub mod Owed
pub mod Hart
pub mod Ask
pub mod Line

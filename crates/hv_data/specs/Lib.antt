pub mod Text
pub mod Written
pub mod Reading
pub mod Data

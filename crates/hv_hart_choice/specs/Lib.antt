-- Which steps of harts their components allow.
pub mod Choice

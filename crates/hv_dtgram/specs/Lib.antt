pub mod Source
pub mod Steps
pub mod Lexed
pub mod Refused
pub mod Contents
pub mod Gathering

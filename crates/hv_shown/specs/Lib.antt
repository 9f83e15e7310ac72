-- What a call appends to a transcript.
pub mod Appends

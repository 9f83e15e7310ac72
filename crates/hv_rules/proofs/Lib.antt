pub mod WindowLemmas
pub mod MeetingLemmas
pub mod Slices

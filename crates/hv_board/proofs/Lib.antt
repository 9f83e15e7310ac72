-- What is proved of a board's cells.
pub mod HeldLemmas
pub mod DoneLemmas
pub mod PlaceLemmas
pub mod KindLemmas
pub mod TouchLemmas
pub mod EventLemmas
pub mod StayLemmas
pub mod LiftLemmas
pub mod StartLemmas
pub mod CloseLemmas

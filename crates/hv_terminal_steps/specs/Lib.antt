-- What the steps of terminals do to the queues that they touch.
pub mod Taken

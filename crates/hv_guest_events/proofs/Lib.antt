-- Lemmas of events on guests.
mod Finding
mod Refusing
mod Owing
mod Making
mod Granting

-- Lemmas of what steps reach that go to the memory of guests from outside.
mod Areas
mod Standing
mod Finding
mod Made

-- What is done at some places.
use Rattle.std.specs.Prelude.{◌≡◌, ℕ, ◌<◌, List, length, slice_index_or, Option}
use Rattle.hv_board.specs.Held.{held_at}

-- Each item becomes what a function makes of it and of what is held at its place, if anything is.
abbrev pub AreDone : {T A : Type 0} → (A → Option T → A) → List ℕ → List T → List A → List A → Type 0
AreDone {T} {A} f places values xs ys =
    (length ys ≡ length xs)
    × ((k : ℕ) (d : A) → k < length xs → slice_index_or ys k d ≡ f (slice_index_or xs k d) (held_at places values k))

-- The history of a shared value: its entries, each of which may name the handle that added it.
use Rattle.std.specs.Prelude.{◌≡◌, ◌⊎◌, ◌==◌, ℕ, Bool, false, List, [], ◌∷◌, ◌++◌, filter, Option, Some, None}

-- A name is that of a handle where it is the handle's number.
abbrev pub is_name : ℕ → Option ℕ → Bool
is_name number None = false
is_name number (Some named) = named == number

module _ {E : Type 0} (names : E → Option ℕ) where
  -- The entries that name a handle, in their order.
  abbrev pub named_by : ℕ → List E → List E
  named_by number history = filter (λ e. is_name number (names e)) history

  -- A history is an opening where it has one entry, which names no handle.
  abbrev pub IsOpening : List E → Type 0
  IsOpening history = (e : E) × (history ≡ e ∷ []) × (names e ≡ None)

  -- A handle may leave with the history that it has seen, or with one entry more, which names it.
  abbrev pub MayLeave : ℕ → List E → List E → Type 0
  MayLeave number seen history =
      (history ≡ seen) ⊎ ((e : E) × (history ≡ seen ++ e ∷ []) × (names e ≡ Some number))

  -- A history goes on from what a handle has seen where it begins with that, and no further entry names the handle.
  pub record IsLater (number : ℕ) (seen history : List E) : Type 0 where
    pub more : List E
    pub longer : history ≡ seen ++ more
    pub others : named_by number more ≡ []

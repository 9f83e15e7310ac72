-- The words of lists of guests and of windows.
use Rattle.std.specs.Prelude.{ℕ, List, [], ◌∷◌, ◌++◌, codes}
use Rattle.std.specs.List.{AllByRecursion, flat_map, join_with_byte}
use Rattle.hv_text.specs.Front.{IsFree}
use Rattle.hv_data.specs.Data.{Datum, Number8, Address, Name, At, TypeOf, data_words, AreData}
use Rattle.hv_listing.specs.declared.guest.ListedGuest.{ListedGuest}
use Rattle.hv_listing.specs.declared.window.ListedWindow.{ListedWindow}

-- What is listed of a guest: its name, its slot and its stage.
abbrev pub guest_data : ListedGuest → List Datum
guest_data g = Name g.name ∷ Number8 g.slot ∷ At g.stage ∷ []

-- The rows of a window's owner and of its target, and its type.
abbrev pub rows_data : ListedWindow → List Datum
rows_data w = Number8 w.owner ∷ Number8 w.target ∷ TypeOf w.address_type ∷ []

-- A window's base and size, and its offset in the target.
abbrev pub place_data : ListedWindow → List Datum
place_data w = Address w.base ∷ Address w.size ∷ Address w.offset ∷ []

-- What is listed of a window: its rows, its type, and its place.
abbrev pub window_data : ListedWindow → List Datum
window_data w = rows_data w ++ place_data w

-- An entry's data stand with a colon between two.
abbrev pub entry_text : List Datum → List ℕ
entry_text ds = join_with_byte 58 (data_words ds)

-- The entry of a guest.
abbrev pub guest_text : ListedGuest → List ℕ
guest_text g = entry_text (guest_data g)

-- The front of a window's entry.
abbrev pub rows_text : ListedWindow → List ℕ
rows_text w = entry_text (rows_data w)

-- The back of a window's entry.
abbrev pub place_text : ListedWindow → List ℕ
place_text w = entry_text (place_data w)

-- The entry of a window.
abbrev pub window_text : ListedWindow → List ℕ
window_text w = entry_text (window_data w)

-- Each further entry stands behind a comma.
abbrev pub further_entries : {A : Type 0} → (A → List ℕ) → List A → List ℕ
further_entries shown xs = flat_map (λ x. 44 ∷ shown x) xs

-- Entries are written with a comma between two, and no entries as a hyphen.
abbrev pub entries_text : {A : Type 0} → (A → List ℕ) → List A → List ℕ
entries_text shown [] = codes "-"
entries_text shown (x ∷ xs) = shown x ++ further_entries shown xs

-- The word of guests.
abbrev pub guests_text : List ListedGuest → List ℕ
guests_text gs = entries_text guest_text gs

-- The word of windows.
abbrev pub windows_text : List ListedWindow → List ℕ
windows_text ws = entries_text window_text ws

-- A listed guest has data of the written form, and no colon in its name.
abbrev pub IsGuest : ListedGuest → Type 0
IsGuest g = AreData (guest_data g) × IsFree 58 g.name

-- A listed window has data of the written form.
abbrev pub IsWindow : ListedWindow → Type 0
IsWindow w = AreData (window_data w)

-- Each of these is a listed guest.
abbrev pub AreGuests : List ListedGuest → Type 0
AreGuests gs = AllByRecursion IsGuest gs

-- Each of these is a listed window.
abbrev pub AreWindows : List ListedWindow → Type 0
AreWindows ws = AllByRecursion IsWindow ws

-- What is listed of one guest or window.
use Rattle.std.proofs.Common.{◌≡◌, ℕ, ◌<◌, ◌^◌, List, [], ◌∷◌, ◌++◌, length, refl, sym, ap, subst, ◌∙◌, arith, length-append}
use Rattle.std.specs.Prelude.{codes}
use Rattle.std.specs.List.{AllByRecursion, join_with_byte}
use Rattle.std.specs.Char.{digit_value}
use Rattle.std.specs.Fmt.{decimal}
use Rattle.hv_kinds.specs.declared.stage.Stage.{Stage}
use Rattle.hv_kinds.specs.declared.stage.Stage.TheVariants as stage
use Rattle.hv_kinds.specs.declared.address.AddressType.{AddressType}
use Rattle.hv_kinds.specs.declared.address.AddressType.TheVariants as address
use Rattle.hv_text.specs.Front.{IsFree}
use Rattle.hv_data.specs.Text.{address_text, stage_text, address_type_text}
use Rattle.hv_data.specs.Data.{Datum, Number8, Address, TypeOf, AreData, data_words, HaveData, HaveNoSpace}
use Rattle.hv_data.proofs.Foreign.{colon_foreign, decimal_free, free_append}
use Rattle.hv_data.proofs.DataLemmas.{same_data, address_free, free_by_test, data_free}
use Rattle.hv_listing.specs.declared.guest.ListedGuest.{ListedGuest}
use Rattle.hv_listing.specs.declared.window.ListedWindow.{ListedWindow}
use Rattle.hv_listing.specs.Listing.{entry_text, guest_data, window_data, guest_text, window_text, further_entries, entries_text, guests_text, windows_text, IsGuest, IsWindow, AreGuests, AreWindows}
use Rattle.hv_listing.specs.Reading.{AreFields, BeginsWithFields, BeginsWithEntry, AreEntryWords}
use Rattle.hv_listing.proofs.FieldLemmas.{same_fields}
use Rattle.hv_listing.proofs.Entries.{IsFronted, same_entries}

-- where no base, size and offset stand behind the first three words, the words are no window's
pub no_place : (words rest : List (List ℕ)) (owner target : ℕ) (t : AddressType) → HaveData words (Number8 owner ∷ Number8 target ∷ TypeOf t ∷ []) rest
    → ((base size offset : ℕ) (more : List (List ℕ)) → HaveData rest (Address base ∷ Address size ∷ Address offset ∷ []) more → ⊥) → (w : ListedWindow) → AreEntryWords window_data words w → ⊥
no_place words rest owner target t front none w h =
    none w.base w.size w.offset [] (h.0.1.1.1, cc (front.1, h.1))

stage_without : (s : Stage) → IsFree 44 (stage_text s)
stage_without stage.Making = free_by_test 44 (codes "Making") refl
stage_without stage.Made = free_by_test 44 (codes "Made") refl
stage_without stage.Ending = free_by_test 44 (codes "Ending") refl

type_without : (a : AddressType) → IsFree 58 (address_type_text a)
type_without address.Memory = free_by_test 58 (codes "memory") refl
type_without address.Io = free_by_test 58 (codes "io") refl

no_comma_digit : digit_value 44 < 16 → ⊥
no_comma_digit lt = omega (arith, lt)

no_colon_digit : digit_value 58 < 16 → ⊥
no_colon_digit lt = omega (arith, lt)

address_without : (n : ℕ) → n < 2 ^ 64 → IsFree 58 (address_text n) × IsFree 44 (address_text n)
address_without n lt = (address_free 58 n no_colon_digit (λ e. omega (arith, e)) (λ e. omega (arith, e)) lt, address_free 44 n no_comma_digit (λ e. omega (arith, e)) (λ e. omega (arith, e)) lt)

number_without : (n : ℕ) → n < 2 ^ 8 → IsFree 58 (decimal n)
number_without n lt = decimal_free 58 n colon_foreign (omega arith)

guest_fields : (g : ListedGuest) → IsGuest g → AreFields (data_words (guest_data g))
guest_fields g h = (h.1, (number_without g.slot h.0.1.0, stage_without g.stage))

window_fields : (w : ListedWindow) → IsWindow w → AreFields (data_words (window_data w))
window_fields w h =
    (number_without w.owner h.0, (number_without w.target h.1.0, (type_without w.address_type, ((address_without w.base h.1.1.1.0).0, ((address_without w.size h.1.1.1.1.0).0, (address_without w.offset h.1.1.1.1.1.0).1)))))

guest_made : List ℕ → ℕ → Stage → ListedGuest
guest_made name slot s = record { name = name; slot = slot; stage = s }

guest_whole : (g : ListedGuest) → guest_made g.name g.slot g.stage ≡ g
unfolding guest_made
guest_whole g = refl

window_made : ℕ → ℕ → AddressType → ℕ → ℕ → ℕ → ListedWindow
window_made owner target t base size offset = record { owner = owner; target = target; address_type = t; base = base; size = size; offset = offset }

window_whole : (w : ListedWindow) → window_made w.owner w.target w.address_type w.base w.size w.offset ≡ w
unfolding window_made
window_whole w = refl

same_guest : (g h : ListedGuest) → guest_data g ≡ guest_data h → g ≡ h
same_guest g h e =
    let names : g.name ≡ h.name = cc e in
    let slots : g.slot ≡ h.slot = cc e in
    let stages : g.stage ≡ h.stage = cc e in
    let made : guest_made g.name g.slot g.stage ≡ guest_made h.name h.slot h.stage = cc (names, slots, stages) in
    sym (guest_whole g) ∙ made ∙ guest_whole h

same_window : (v w : ListedWindow) → window_data v ≡ window_data w → v ≡ w
same_window v w e =
    let owners : v.owner ≡ w.owner = cc e in
    let targets : v.target ≡ w.target = cc e in
    let types : v.address_type ≡ w.address_type = cc e in
    let bases : v.base ≡ w.base = cc e in
    let sizes : v.size ≡ w.size = cc e in
    let offsets : v.offset ≡ w.offset = cc e in
    let made : window_made v.owner v.target v.address_type v.base v.size v.offset ≡ window_made w.owner w.target w.address_type w.base w.size w.offset = cc (owners, targets, types, bases, sizes, offsets) in
    sym (window_whole v) ∙ made ∙ window_whole w

pub guests_fronted : IsFronted IsGuest guest_text
guests_fronted = record {
  same = λ x y t u h k s v e.
      let both = same_fields (data_words (guest_data x)) (data_words (guest_data y)) t u refl (guest_fields x h) (guest_fields y k) s v e in
      let one = same_data (guest_data x) (guest_data y) [] [] refl h.0 k.0 (ap (λ (ws : List (List ℕ)). ws ++ []) both.0) in
      (same_guest x y one.same_data, both.1);
  long = λ x. omega (arith, length-append x.name (58 ∷ (decimal x.slot ++ 58 ∷ stage_text x.stage)), length-append (decimal x.slot) (58 ∷ stage_text x.stage));
}

window_long : (w : ListedWindow) → 1 < length (window_text w)
window_long w = longer (decimal w.owner) (decimal w.target) (behind_rows w)
  where
    behind_rows : ListedWindow → List ℕ
    behind_rows v = join_with_byte 58 (data_words (TypeOf v.address_type ∷ Address v.base ∷ Address v.size ∷ Address v.offset ∷ []))

    longer : (a b rest : List ℕ) → 1 < length (a ++ (58 ∷ (b ++ (58 ∷ rest))))
    longer a b rest = omega (arith, length-append a (58 ∷ (b ++ (58 ∷ rest))), length-append b (58 ∷ rest))

pub windows_fronted : IsFronted IsWindow window_text
windows_fronted = record {
  same = λ x y t u h k s v e.
      let both = same_fields (data_words (window_data x)) (data_words (window_data y)) t u refl (window_fields x h) (window_fields y k) s v e in
      let one = same_data (window_data x) (window_data y) [] [] refl h k (ap (λ (ws : List (List ℕ)). ws ++ []) both.0) in
      (same_window x y one.same_data, both.1);
  long = window_long;
}

-- how entries are made of fields
pub record IsFielded {A : Type 0} (good : A → Type 0) (data_of : A → List Datum) (count : ℕ) : Type 0 where
  pub many : (x : A) → length (data_words (data_of x)) ≡ count
  pub formed : (x : A) → good x → AreFields (data_words (data_of x))
  pub written : (x : A) → good x → AreData (data_of x)
  pub entry : (x : A) → AreData (data_of x) → AreFields (data_words (data_of x)) → good x

pub guests_fielded : IsFielded IsGuest guest_data 3
guests_fielded = record { many = λ x. refl; formed = guest_fields; written = λ x h. h.0; entry = λ x h k. (h, k.0) }

pub windows_fielded : IsFielded IsWindow window_data 6
windows_fielded = record { many = λ x. refl; formed = window_fields; written = λ x h. h; entry = λ x h k. h }

-- a text without so many fields has no entry
pub no_fields : {A : Type 0} (good : A → Type 0) (data_of : A → List Datum) (count : ℕ) → IsFielded good data_of count → (text : List ℕ)
    → ((fields : List (List ℕ)) (rest : List ℕ) → BeginsWithFields text count fields rest → ⊥) → (x : A) (rest : List ℕ) → BeginsWithEntry good (λ a. entry_text (data_of a)) text x rest → ⊥
no_fields good data_of count made text none x rest h =
    none (data_words (data_of x)) rest (record { as_many = made.many x; formed = made.formed x h.written; stops = h.stops; is = h.is })

-- fields that are no entry's begin a text without an entry
pub no_entry : {A : Type 0} (good : A → Type 0) (data_of : A → List Datum) (count : ℕ) → IsFielded good data_of count → (text : List ℕ) (fields : List (List ℕ)) (rest : List ℕ) → BeginsWithFields text count fields rest
    → ((x : A) → AreEntryWords data_of fields x → ⊥) → (x : A) (more : List ℕ) → BeginsWithEntry good (λ a. entry_text (data_of a)) text x more → ⊥
no_entry good data_of count made text fields rest h none x more k =
    let both = same_fields fields (data_words (data_of x)) rest more (h.as_many ∙ sym (made.many x)) h.formed (made.formed x k.written) h.stops k.stops (sym h.is ∙ k.is) in
    none x (made.written x k.written, both.0)

-- fields that are an entry's begin a text with it
pub entry_begins : {A : Type 0} (good : A → Type 0) (data_of : A → List Datum) (count : ℕ) → IsFielded good data_of count → (text : List ℕ) (fields : List (List ℕ)) (rest : List ℕ) → BeginsWithFields text count fields rest
    → (x : A) → AreEntryWords data_of fields x → BeginsWithEntry good (λ a. entry_text (data_of a)) text x rest
entry_begins good data_of count made text fields rest h x k = record {
  written = made.entry x k.0 (subst AreFields k.1 h.formed);
  stops = h.stops;
  is = h.is ∙ ap (λ (ws : List (List ℕ)). join_with_byte 58 ws ++ rest) k.1;
}

-- words without a space that are joined by colons
words_spaceless : (words : List (List ℕ)) → HaveNoSpace words → IsFree 32 (join_with_byte 58 words)
words_spaceless [] h = tt
words_spaceless (w ∷ []) h = h.0
words_spaceless (w ∷ v ∷ words) h = free_append 32 w (58 ∷ join_with_byte 58 (v ∷ words)) h.0 ((λ e. omega (arith, e)), words_spaceless (v ∷ words) h.1)

entry_spaceless : (ds : List Datum) → AreData ds → IsFree 32 (entry_text ds)
entry_spaceless ds h = words_spaceless (data_words ds) (data_free ds h)

further_spaceless : {A : Type 0} (good : A → Type 0) (shown : A → List ℕ) → ((x : A) → good x → IsFree 32 (shown x)) → (xs : List A) → AllByRecursion good xs → IsFree 32 (further_entries shown xs)
further_spaceless good shown each [] h = tt
further_spaceless good shown each (x ∷ xs) h = ((λ e. omega (arith, e)), free_append 32 (shown x) (further_entries shown xs) (each x h.0) (further_spaceless good shown each xs h.1))

entries_spaceless : {A : Type 0} (good : A → Type 0) (shown : A → List ℕ) → ((x : A) → good x → IsFree 32 (shown x)) → (xs : List A) → AllByRecursion good xs → IsFree 32 (entries_text shown xs)
entries_spaceless good shown each [] h = free_by_test 32 (codes "-") refl
entries_spaceless good shown each (x ∷ xs) h = free_append 32 (shown x) (further_entries shown xs) (each x h.0) (further_spaceless good shown each xs h.1)

-- two lists of guests with one word are one
pub same_guests : (gs hs : List ListedGuest) → AreGuests gs → AreGuests hs → guests_text gs ≡ guests_text hs → gs ≡ hs
same_guests = same_entries IsGuest guest_text guests_fronted

-- two lists of windows with one word are one
pub same_windows : (vs ws : List ListedWindow) → AreWindows vs → AreWindows ws → windows_text vs ≡ windows_text ws → vs ≡ ws
same_windows = same_entries IsWindow window_text windows_fronted

-- the word of guests has no space
pub guests_free : (gs : List ListedGuest) → AreGuests gs → IsFree 32 (guests_text gs)
guests_free = entries_spaceless IsGuest guest_text (λ x h. entry_spaceless (guest_data x) h.0)

-- the word of windows has no space
pub windows_free : (ws : List ListedWindow) → AreWindows ws → IsFree 32 (windows_text ws)
windows_free = entries_spaceless IsWindow window_text (λ x h. entry_spaceless (window_data x) h)

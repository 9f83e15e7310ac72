-- Data of one kind: their words differ, and have no spaces.
use Rattle.std.proofs.Common.{◌≡◌, ◌≢◌, ℕ, ◌^◌, ◌<◌, Bool, ◌&&◌, true, false, not, cond, eqb, List, [], ◌∷◌, ◌++◌, length, refl, sym, ap, subst, ◌∙◌, arith, length-append}
use Rattle.std.specs.Prelude.{codes, Option, Some, None, nat_eq, find}
use Rattle.std.specs.List.{AllByRecursion, list_all, starts_with}
use Rattle.std.specs.Char.{digit_value}
use Rattle.std.specs.Cmp.Lexicographic.{pointwise}
use Rattle.std.specs.Fmt.{decimal, digits}
use Rattle.std.specs.Str.Parse.{AllDigits}
use Rattle.std.proofs.lemmas.Bool.{false≢true, eq-eqb}
use Rattle.std.proofs.lemmas.Fmt.{decimal_injective, digits_is_IsNumeral}
use Rattle.hv_text.specs.Front.{IsFree}
use Rattle.hv_text.specs.Path.{ArePathNames, slashed, path_text}
use Rattle.hv_text.proofs.Names.{path_text_same}
use Rattle.hv_kinds.specs.declared.stage.Stage.{Stage}
use Rattle.hv_kinds.specs.declared.stage.Stage.TheVariants as stage
use Rattle.hv_kinds.specs.declared.address.AddressType.{AddressType}
use Rattle.hv_kinds.specs.declared.address.AddressType.TheVariants as address
use Rattle.hv_kinds.specs.declared.access.Direction.{Direction}
use Rattle.hv_kinds.specs.declared.access.Direction.TheVariants as direction
use Rattle.hv_kinds.specs.declared.access.AccessKind.{AccessKind}
use Rattle.hv_kinds.specs.declared.access.AccessKind.TheVariants as access
use Rattle.hv_kinds.specs.declared.changes.SignalChanges.{SignalChanges}
use Rattle.hv_kinds.specs.declared.generation.Generation.{Generation}
use Rattle.hv_kinds.specs.declared.state.State.{State}
use Rattle.hv_kinds.specs.declared.state.State.TheVariants as state
use Rattle.hv_kinds.specs.declared.state.StateName.{StateName}
use Rattle.hv_kinds.specs.declared.state.StateName.TheVariants as name
use Rattle.hv_data.specs.Text.{address_text, generation_text, stage_text, next_stage_text, address_type_text, state_text, state_name_text, direction_text, access_kind_text, changes_text, bit_text}
use Rattle.hv_data.specs.Written.{IsShown, IsGeneration, IsState, AreChanges}
use Rattle.hv_data.specs.Data.{Datum, Number, Number8, Address, Hex, Names, Name, PathOf, Born, At, To, TypeOf, StateOf, Named, Towards, Accessed, Changed}
use Rattle.hv_data.specs.Data.{kind_of, datum_text, IsDatum, AreData, data_words, kinds_of, IsOneFront, HaveNoSpace}
use Rattle.hv_data.proofs.Foreign.{space_foreign, free_append, decimal_free, path_free}
use Rattle.hv_data.proofs.Pairs.{same_bytes, hex_free}
use Rattle.hv_data.proofs.Listed.{same_names, names_free}
use Rattle.hv_data.proofs.Numerals.{same_address}
use Rattle.hv_data.proofs.Composed.{same_generation, same_changes, generation_is, decimal_without}

-- words behind one first word
pub behind : {words rest more : List (List ℕ)} {word other : List ℕ} → words ≡ word ∷ rest → words ≡ other ∷ more → rest ≡ more
behind is there = cc (is, there)

-- the choice that a text names
abbrev choice_of : {A : Type 0} → (A → List ℕ) → List A → List ℕ → Option A
choice_of shown all word = find (λ a. pointwise nat_eq word (shown a)) all

-- choices that are each found by their text have different texts
pub same_choice : {A : Type 0} (shown : A → List ℕ) (find_it : List ℕ → Option A) → ((a : A) → find_it (shown a) ≡ Some a) → (a b : A) → shown a ≡ shown b → a ≡ b
same_choice shown find_it found a b e =
    let both : Some a ≡ Some b = sym (found a) ∙ ap find_it e ∙ found b in
    cc both

stage_found : (s : Option Stage) → choice_of next_stage_text (None ∷ Some stage.Making ∷ Some stage.Made ∷ Some stage.Ending ∷ []) (next_stage_text s) ≡ Some s
stage_found None = refl
stage_found (Some stage.Making) = refl
stage_found (Some stage.Made) = refl
stage_found (Some stage.Ending) = refl

pub same_next_stage : (s t : Option Stage) → next_stage_text s ≡ next_stage_text t → s ≡ t
same_next_stage s t e = same_choice next_stage_text (choice_of next_stage_text (None ∷ Some stage.Making ∷ Some stage.Made ∷ Some stage.Ending ∷ [])) stage_found s t e

pub same_stage : (s t : Stage) → stage_text s ≡ stage_text t → s ≡ t
same_stage s t e = let both = same_next_stage (Some s) (Some t) e in cc both

type_found : (a : AddressType) → choice_of address_type_text (address.Memory ∷ address.Io ∷ []) (address_type_text a) ≡ Some a
type_found address.Memory = refl
type_found address.Io = refl

pub same_address_type : (a b : AddressType) → address_type_text a ≡ address_type_text b → a ≡ b
same_address_type a b e = same_choice address_type_text (choice_of address_type_text (address.Memory ∷ address.Io ∷ [])) type_found a b e

direction_found : (d : Direction) → choice_of direction_text (direction.Read ∷ direction.Write ∷ []) (direction_text d) ≡ Some d
direction_found direction.Read = refl
direction_found direction.Write = refl

pub same_direction : (c d : Direction) → direction_text c ≡ direction_text d → c ≡ d
same_direction c d e = same_choice direction_text (choice_of direction_text (direction.Read ∷ direction.Write ∷ [])) direction_found c d e

access_found : (a : AccessKind) → choice_of access_kind_text (access.Execute ∷ access.Read ∷ access.Write ∷ []) (access_kind_text a) ≡ Some a
access_found access.Execute = refl
access_found access.Read = refl
access_found access.Write = refl

pub same_access_kind : (a b : AccessKind) → access_kind_text a ≡ access_kind_text b → a ≡ b
same_access_kind a b e = same_choice access_kind_text (choice_of access_kind_text (access.Execute ∷ access.Read ∷ access.Write ∷ [])) access_found a b e

abbrev names_of_states : List StateName
names_of_states = name.Unknown ∷ name.Reset ∷ name.Ready ∷ name.Running ∷ name.Paused ∷ name.Halted ∷ []

state_name_found : (s : StateName) → choice_of state_name_text names_of_states (state_name_text s) ≡ Some s
state_name_found name.Unknown = refl
state_name_found name.Reset = refl
state_name_found name.Ready = refl
state_name_found name.Running = refl
state_name_found name.Paused = refl
state_name_found name.Halted = refl

pub same_state_name : (s t : StateName) → state_name_text s ≡ state_name_text t → s ≡ t
same_state_name s t e = same_choice state_name_text (choice_of state_name_text names_of_states) state_name_found s t e

-- a state without its hart's number
abbrev bare : State → State
bare state.Unknown = state.Unknown
bare state.Reset = state.Reset
bare state.Ready = state.Ready
bare (state.Running hart) = state.Running 0
bare (state.Paused waits) = state.Paused waits
bare state.Halted = state.Halted

abbrev bare_states : List State
bare_states = state.Unknown ∷ state.Reset ∷ state.Ready ∷ state.Paused false ∷ state.Paused true ∷ state.Halted ∷ []

abbrev bare_of : List ℕ → Option State
bare_of word = cond (starts_with nat_eq word (codes "Running")) (Some (state.Running 0)) (choice_of state_text bare_states word)

bare_found : (s : State) → bare_of (state_text s) ≡ Some (bare s)
bare_found state.Unknown = refl
bare_found state.Reset = refl
bare_found state.Ready = refl
bare_found (state.Running hart) = refl
bare_found (state.Paused true) = refl
bare_found (state.Paused false) = refl
bare_found state.Halted = refl

-- two states that differ at most in their harts are one, where the harts are one
from_bare : (s t : State) → bare s ≡ bare t → ((m n : ℕ) → s ≡ state.Running m → t ≡ state.Running n → m ≡ n) → s ≡ t
from_bare (state.Running m) (state.Running n) e harts = ap state.Running (harts m n refl refl)
from_bare (state.Running m) t e harts = absurd (cc e)
from_bare s (state.Running n) e harts = absurd (cc e)
from_bare s t e harts = e

same_hart : (m n : ℕ) → IsState (state.Running m) → IsState (state.Running n) → state_text (state.Running m) ≡ state_text (state.Running n) → m ≡ n
same_hart m n h k e = decimal_injective m n (omega arith) (omega arith) (cc e)

pub same_state : (s t : State) → IsState s → IsState t → state_text s ≡ state_text t → s ≡ t
same_state s t h k e =
    let both : Some (bare s) ≡ Some (bare t) = sym (bare_found s) ∙ ap bare_of e ∙ bare_found t in
    from_bare s t (cc both) (λ m n is there. same_hart m n (subst IsState is h) (subst IsState there k) (ap state_text (sym is) ∙ e ∙ ap state_text there))

-- two paths with one text are one
pub same_path : (p q : List (List ℕ)) → ArePathNames p → ArePathNames q → path_text p ≡ path_text q → p ≡ q
same_path [] [] h k e = refl
same_path [] (n ∷ ns) h k e = absurd (omega (arith, ap length e, length-append n (slashed ns), k.0.some))
same_path (n ∷ ns) [] h k e = absurd (omega (arith, ap length e, length-append n (slashed ns), h.0.some))
same_path (m ∷ ms) (n ∷ ns) h k e = path_text_same (m ∷ ms) (n ∷ ns) (omega arith) (omega arith) h k e

-- two data of one kind with one word are one
pub same_datum : (c d : Datum) → kind_of c ≡ kind_of d → IsDatum c → IsDatum d → datum_text c ≡ datum_text d → c ≡ d
same_datum (Number m) (Number n) kind h k e = ap Number (decimal_injective m n h k e)
same_datum (Number8 m) (Number8 n) kind h k e = ap Number8 (decimal_injective m n (omega arith) (omega arith) e)
same_datum (Address m) (Address n) kind h k e = ap Address (same_address m n h k e)
same_datum (Hex m) (Hex n) kind h k e = ap Hex (same_bytes m n h k e)
same_datum (Names m) (Names n) kind h k e = ap Names (same_names m n h k e)
same_datum (Name m) (Name n) kind h k e = ap Name e
same_datum (PathOf m) (PathOf n) kind h k e = ap PathOf (same_path m n h k e)
same_datum (Born m) (Born n) kind h k e = ap Born (same_generation m n h k e)
same_datum (At m) (At n) kind h k e = ap At (same_stage m n e)
same_datum (To m) (To n) kind h k e = ap To (same_next_stage m n e)
same_datum (TypeOf m) (TypeOf n) kind h k e = ap TypeOf (same_address_type m n e)
same_datum (StateOf m) (StateOf n) kind h k e = ap StateOf (same_state m n h k e)
same_datum (Named m) (Named n) kind h k e = ap Named (same_state_name m n e)
same_datum (Towards m) (Towards n) kind h k e = ap Towards (same_direction m n e)
same_datum (Accessed m) (Accessed n) kind h k e = ap Accessed (same_access_kind m n e)
same_datum (Changed m) (Changed n) kind h k e = ap Changed (same_changes m n h k e)
same_datum c d kind h k e = absurd (cc kind)

-- two lists of data of the same kinds, in front of the same words, are one
pub same_data : (one other : List Datum) (rest behind : List (List ℕ)) → kinds_of one ≡ kinds_of other → AreData one → AreData other → data_words one ++ rest ≡ data_words other ++ behind → IsOneFront one other rest behind
same_data [] [] rest behind kinds h k e = record { same_data = refl; same_rest = e }
same_data [] (d ∷ ds) rest behind kinds h k e = absurd (cc kinds)
same_data (c ∷ cs) [] rest behind kinds h k e = absurd (cc kinds)
same_data (c ∷ cs) (d ∷ ds) rest behind kinds h k e =
    let kind : kind_of c ≡ kind_of d = cc kinds in
    let other_kinds : kinds_of cs ≡ kinds_of ds = cc kinds in
    let word : datum_text c ≡ datum_text d = cc e in
    let words : data_words cs ++ rest ≡ data_words ds ++ behind = cc e in
    let more = same_data cs ds rest behind other_kinds h.1 k.1 words in
    let here : c ≡ d = same_datum c d kind h.0 k.0 word in
    record { same_data = ap (λ (x : Datum). x ∷ cs) here ∙ ap (λ (xs : List Datum). d ∷ xs) more.same_data; same_rest = more.same_rest }

free_head : (d b : ℕ) (t more : Bool) → eqb b d ≡ t → (not t && more) ≡ true → (b ≢ d) × (more ≡ true)
free_head d b true more is e = absurd (false≢true e)
free_head d b false more is e = ((λ same. false≢true (sym is ∙ eq-eqb b d same)), e)

-- a text in which a test finds no such byte
pub free_by_test : (d : ℕ) (text : List ℕ) → list_all (λ b. not (eqb b d)) text ≡ true → IsFree d text
free_by_test d [] e = tt
free_by_test d (b ∷ bs) e =
    let both = free_head d b (eqb b d) (list_all (λ x. not (eqb x d)) bs) refl e in
    (both.0, free_by_test d bs both.1)

hex_digits_free : (d : ℕ) (word : List ℕ) → (digit_value d < 16 → ⊥) → AllDigits 16 word → IsFree d word
hex_digits_free d [] none h = tt
hex_digits_free d (b ∷ word) none h = ((λ e. none (subst (λ (x : ℕ). digit_value x < 16) e h.0)), hex_digits_free d word none h.1)

hex_number_free : (d n : ℕ) → (digit_value d < 16 → ⊥) → n < 2 ^ 64 → IsFree d (digits 16 false n)
hex_number_free d n none lt = hex_digits_free d (digits 16 false n) none (digits_is_IsNumeral 16 false (omega arith) (omega arith) n (omega arith)).0.1

no_space_digit : digit_value 32 < 16 → ⊥
no_space_digit lt = omega (arith, lt)

-- a byte that is no digit and no `x` stands in no address
pub address_free : (d n : ℕ) → (digit_value d < 16 → ⊥) → 48 ≢ d → 120 ≢ d → n < 2 ^ 64 → IsFree d (address_text n)
address_free d n none zero x lt = (zero, (x, hex_number_free d n none lt))

shown_free : (word : List ℕ) → AllByRecursion IsShown word → IsFree 32 word
shown_free [] h = tt
shown_free (b ∷ word) h = ((λ e. omega (arith, h.0)), shown_free word h.1)

generation_free : (g : Option Generation) → IsGeneration g → IsFree 32 (generation_text g)
generation_free None h = free_by_test 32 (codes "@-") refl
generation_free (Some g) h =
    subst (IsFree 32) (sym (generation_is g)) ((free_by_test 32 (codes "@") refl).0, free_append 32 (decimal g.slot) (46 ∷ decimal g.birth) (decimal_without 32 g.slot (omega arith) (omega (arith, h.0))) ((free_by_test 32 (codes ".") refl).0, decimal_without 32 g.birth (omega arith) h.1))

state_free : (s : State) → IsState s → IsFree 32 (state_text s)
state_free state.Unknown h = free_by_test 32 (codes "Unknown") refl
state_free state.Reset h = free_by_test 32 (codes "Reset") refl
state_free state.Ready h = free_by_test 32 (codes "Ready") refl
state_free (state.Running hart) h = free_append 32 (codes "Running") (decimal hart) (free_by_test 32 (codes "Running") refl) (decimal_free 32 hart space_foreign (omega arith))
state_free (state.Paused true) h = free_by_test 32 (codes "Paused/wfi") refl
state_free (state.Paused false) h = free_by_test 32 (codes "Paused") refl
state_free state.Halted h = free_by_test 32 (codes "Halted") refl

next_stage_free : (s : Option Stage) → IsFree 32 (next_stage_text s)
next_stage_free None = free_by_test 32 (codes "Free") refl
next_stage_free (Some stage.Making) = free_by_test 32 (codes "Making") refl
next_stage_free (Some stage.Made) = free_by_test 32 (codes "Made") refl
next_stage_free (Some stage.Ending) = free_by_test 32 (codes "Ending") refl

address_type_free : (a : AddressType) → IsFree 32 (address_type_text a)
address_type_free address.Memory = free_by_test 32 (codes "memory") refl
address_type_free address.Io = free_by_test 32 (codes "io") refl

state_name_free : (s : StateName) → IsFree 32 (state_name_text s)
state_name_free name.Unknown = free_by_test 32 (codes "Unknown") refl
state_name_free name.Reset = free_by_test 32 (codes "Reset") refl
state_name_free name.Ready = free_by_test 32 (codes "Ready") refl
state_name_free name.Running = free_by_test 32 (codes "Running") refl
state_name_free name.Paused = free_by_test 32 (codes "Paused") refl
state_name_free name.Halted = free_by_test 32 (codes "Halted") refl

direction_free : (d : Direction) → IsFree 32 (direction_text d)
direction_free direction.Read = free_by_test 32 (codes "r") refl
direction_free direction.Write = free_by_test 32 (codes "w") refl

access_kind_free : (a : AccessKind) → IsFree 32 (access_kind_text a)
access_kind_free access.Execute = free_by_test 32 (codes "x") refl
access_kind_free access.Read = free_by_test 32 (codes "r") refl
access_kind_free access.Write = free_by_test 32 (codes "w") refl

bit_free : (line : Bool) → IsFree 32 (codes "m" ++ bit_text line ++ codes ".")
bit_free true = free_by_test 32 (codes "m1.") refl
bit_free false = free_by_test 32 (codes "m0.") refl

changes_free : (c : SignalChanges) → AreChanges c → IsFree 32 (changes_text c)
changes_free c h = free_append 32 (codes "m" ++ bit_text c.line ++ codes ".") (digits 16 false c.pins) (bit_free c.line) (hex_number_free 32 c.pins no_space_digit (omega arith))

-- the word of a written datum has no space
pub datum_free : (d : Datum) → IsDatum d → IsFree 32 (datum_text d)
datum_free (Number n) h = decimal_free 32 n space_foreign h
datum_free (Number8 n) h = decimal_free 32 n space_foreign (omega arith)
datum_free (Address n) h = address_free 32 n no_space_digit (λ e. omega (arith, e)) (λ e. omega (arith, e)) h
datum_free (Hex bytes) h = hex_free 32 bytes space_foreign h
datum_free (Names names) h = names_free 32 names space_foreign (λ e. omega (arith, e)) h
datum_free (Name word) h = shown_free word h.1
datum_free (PathOf path) h = path_free 32 path space_foreign h
datum_free (Born generation) h = generation_free generation h
datum_free (At s) h = next_stage_free (Some s)
datum_free (To s) h = next_stage_free s
datum_free (TypeOf a) h = address_type_free a
datum_free (StateOf s) h = state_free s h
datum_free (Named s) h = state_name_free s
datum_free (Towards d) h = direction_free d
datum_free (Accessed a) h = access_kind_free a
datum_free (Changed c) h = changes_free c h

pub data_free : (ds : List Datum) → AreData ds → HaveNoSpace (data_words ds)
data_free [] h = tt
data_free (d ∷ ds) h = (datum_free d h.0, data_free ds h.1)

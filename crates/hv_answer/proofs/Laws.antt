-- What holds of the words of what steps give.
use Rattle.std.proofs.Common.{◌≡◌, ℕ, ◌^◌, ◌<◌, ◌≤◌, Bool, true, false, not, eqb, List, [], ◌∷◌, ◌++◌, length, refl, sym, ap, ◌∙◌, arith}
use Rattle.std.specs.Prelude.{codes, if◌then◌else◌, Option, Some, None, Result, Ok, Err}
use Rattle.std.specs.List.{list_all}
use Rattle.std.specs.Fmt.{decimal}
use Rattle.std.proofs.lemmas.Fmt.{decimal_injective}
use Rattle.hv_kinds.specs.declared.changes.SignalChanges.{SignalChanges}
use Rattle.hv_kinds.specs.declared.generation.Generation.{Generation}
use Rattle.hv_data.specs.Text.{address_text, names_text, bit_text}
use Rattle.hv_data.specs.Written.{IsNumber, IsNumber8, AreBytes, AreListedNames, AreChanges, IsState, IsAny}
use Rattle.hv_data.specs.Reading.{AreWordsOf, BeginWith}
use Rattle.hv_data.specs.Data.{Datum, Number, Number8, Address, Hex, Names, StateOf, Changed, kinds_of, AreData, data_words, HaveNoSpace}
use Rattle.hv_data.proofs.DataLemmas.{same_data, data_free, free_by_test}
use Rattle.hv_text.specs.Front.{IsFree}
use Rattle.hv_listing.specs.declared.guest.ListedGuest.{ListedGuest}
use Rattle.hv_listing.specs.declared.window.ListedWindow.{ListedWindow}
use Rattle.hv_listing.specs.Listing.{guests_text, windows_text, AreGuests, AreWindows}
use Rattle.hv_listing.proofs.Entry.{same_guests, same_windows, guests_free, windows_free}
use Rattle.hv_name.specs.declared.name.StepName.{StepName}
use Rattle.hv_name.specs.StepName.{is_word}
use Rattle.hv_refusal.specs.declared.refusal.Refusal.{Refusal}
use Rattle.hv_refusal.proofs.Refusals.{same_refusal, refusal_free}
use Rattle.hv_answer.specs.declared.reply.Outcome.{Outcome}
use Rattle.hv_answer.specs.declared.reply.Outcome.TheVariants as outcome
use Rattle.hv_answer.specs.declared.reply.Fetched.{Fetched}
use Rattle.hv_answer.specs.declared.reply.Accessed.{Accessed}
use Rattle.hv_answer.specs.declared.reply.Moved.{Moved}
use Rattle.hv_answer.specs.declared.reply.Sampled.{Sampled}
use Rattle.hv_kinds.specs.declared.pins.Pins.{Pins}
use Rattle.hv_answer.specs.declared.reply.Pinned.{Pinned}
use Rattle.hv_answer.specs.Payload.{no_words, bytes_words, names_words, guests_words, windows_words, number_words, changes_words, generation_words, state_words, outcome_words, fetched_words}
use Rattle.hv_answer.specs.Payload.{accessed_words, harts_words, moved_words, sampled_words, pins_text, woken_text, pinned_words, ticked_words, maybe_words}
use Rattle.hv_answer.specs.Payload.{IsNumber32, IsBorn, IsOutcome, IsFetched, IsAccessed, AreHarts, IsMoved, IsSampled, IsMaybe}
use Rattle.hv_answer.specs.Refused.{MayRefuse}
use Rattle.hv_answer.specs.Reply.{refused_words, given_words, IsAnswer}

-- a number of more than 32 bits is no shorter one
pub no_long_number : (words : List (List ℕ)) (given : ℕ) → AreWordsOf IsNumber number_words words given → 2 ^ 32 ≤ given → (n : ℕ) → AreWordsOf IsNumber32 number_words words n → ⊥
no_long_number words given is long n h =
    let both : decimal n ∷ [] ≡ decimal given ∷ [] = sym h.1 ∙ is.1 in
    let same : n ≡ given = decimal_injective n given (omega (arith, h.0)) is.0 (cc both) in
    omega (arith, h.0)

-- words that begin with no names are those of none
pub no_names : (words : List (List ℕ)) → ((value : List (List ℕ)) (behind : List (List ℕ)) → BeginWith AreListedNames names_text words value behind → ⊥) → (value : List (List ℕ)) → AreWordsOf AreListedNames names_words words value → ⊥
no_names words none value h = none value [] (h.0, h.1)

-- where no number stands behind the first, the words are those of no harts
pub no_second : (words rest : List (List ℕ)) (first : ℕ) → words ≡ decimal first ∷ rest → ((value : ℕ) (behind : List (List ℕ)) → BeginWith IsNumber8 decimal rest value behind → ⊥) → (harts : ℕ × ℕ) → AreWordsOf AreHarts harts_words words harts → ⊥
no_second words rest first is none harts h =
    let both : decimal first ∷ rest ≡ decimal harts.0 ∷ decimal harts.1 ∷ [] = sym is ∙ h.1 in
    none harts.1 [] (h.0.1, cc both)

-- where no harts stand behind the VCPU, the words are those of none that moved
pub no_harts : (words numbers rest : List (List ℕ)) (vcpu : ℕ) → words ≡ codes "move" ∷ numbers → numbers ≡ decimal vcpu ∷ rest → ((harts : ℕ × ℕ) → AreWordsOf AreHarts harts_words rest harts → ⊥) → (m : Moved) → AreWordsOf IsMoved moved_words words m → ⊥
no_harts words numbers rest vcpu is there none m h =
    let both : codes "move" ∷ decimal vcpu ∷ rest ≡ codes "move" ∷ decimal m.vcpu ∷ harts_words (m.from, m.to) = ap (λ (ws : List (List ℕ)). codes "move" ∷ ws) (sym there) ∙ sym is ∙ h.1 in
    none (m.from, m.to) ((h.0.1, h.0.2), cc both)

same_address : (m n : ℕ) (rest behind : List (List ℕ)) → IsNumber m → IsNumber n → address_text m ∷ rest ≡ address_text n ∷ behind → m ≡ n
same_address m n rest behind h k e =
    let both = (same_data (Address m ∷ []) (Address n ∷ []) rest behind refl (h, tt) (k, tt) e).same_data in
    cc both

-- a word of more than 32 bits is no instruction's
pub no_long_word : (words rest : List (List ℕ)) (word : ℕ) → BeginWith IsNumber address_text words word rest → 2 ^ 32 ≤ word → (f : Fetched) → AreWordsOf IsFetched fetched_words words f → ⊥
no_long_word words rest word is long f h =
    let same : word ≡ f.word = same_address word f.word rest (outcome_words f.outcome) is.0 (omega (arith, h.0.0)) (sym is.1 ∙ h.1) in
    omega (arith, h.0.0)

-- written values with the same words are one, and their words have no space
pub record Law (A : Type 0) (good : A → Type 0) (shown : A → List (List ℕ)) : Type 0 where
  pub same : (x y : A) → good x → good y → shown x ≡ shown y → x ≡ y
  pub free : (x : A) → good x → HaveNoSpace (shown x)

-- the law of what is written as a list of data
data_law : (A : Type 0) (good : A → Type 0) (data_of : A → List Datum) → ((x y : A) → kinds_of (data_of x) ≡ kinds_of (data_of y)) → ((x : A) → good x → AreData (data_of x)) → ((x y : A) → data_of x ≡ data_of y → x ≡ y)
    → Law A good (λ x. data_words (data_of x))
data_law A good data_of kinds written one = record {
  same = λ x y h k e. one x y (same_data (data_of x) (data_of y) [] [] (kinds x y) (written x h) (written y k) (ap (λ (ws : List (List ℕ)). ws ++ []) e)).same_data;
  free = λ x h. data_free (data_of x) (written x h);
}

abbrev lacks_space : List ℕ → Bool
lacks_space text = list_all (λ b. not (eqb b 32)) text

-- a word in front changes nothing
pub led_law : (A : Type 0) (good : A → Type 0) (shown : A → List (List ℕ)) (word : List ℕ) → lacks_space word ≡ true → Law A good shown → Law A good (λ x. word ∷ shown x)
led_law A good shown word lacks law = record {
  same = λ x y h k e. law.same x y h k (cc e);
  free = λ x h. (free_by_test 32 word lacks, law.free x h);
}

pub nothing_law : Law (Unit {0}) IsAny no_words
nothing_law = record { same = λ x y h k e. refl; free = λ x h. tt }

pub bytes_law : Law (List ℕ) AreBytes bytes_words
bytes_law = data_law (List ℕ) AreBytes (λ b. Hex b ∷ []) (λ x y. refl) (λ x h. (h, tt)) (λ x y e. cc e)

pub names_law : Law (List (List ℕ)) AreListedNames names_words
names_law = data_law (List (List ℕ)) AreListedNames (λ ns. Names ns ∷ []) (λ x y. refl) (λ x h. (h, tt)) (λ x y e. cc e)

-- the law of what is one word
word_law : (A : Type 0) (good : A → Type 0) (shown : A → List ℕ) → ((x y : A) → good x → good y → shown x ≡ shown y → x ≡ y) → ((x : A) → good x → IsFree 32 (shown x)) → Law A good (λ x. shown x ∷ [])
word_law A good shown same free = record { same = λ x y h k e. same x y h k (cc e); free = λ x h. (free x h, tt) }

pub guests_law : Law (List ListedGuest) AreGuests guests_words
guests_law = word_law (List ListedGuest) AreGuests guests_text same_guests guests_free

pub windows_law : Law (List ListedWindow) AreWindows windows_words
windows_law = word_law (List ListedWindow) AreWindows windows_text same_windows windows_free

pub number_law : Law ℕ IsNumber number_words
number_law = data_law ℕ IsNumber (λ n. Number n ∷ []) (λ x y. refl) (λ x h. (h, tt)) (λ x y e. cc e)

pub slice_law : Law ℕ IsNumber32 number_words
slice_law = data_law ℕ IsNumber32 (λ n. Number n ∷ []) (λ x y. refl) (λ x h. (omega (arith, h), tt)) (λ x y e. cc e)

pub changes_law : Law SignalChanges AreChanges changes_words
changes_law = data_law SignalChanges AreChanges (λ c. Changed c ∷ []) (λ x y. refl) (λ x h. (h, tt)) (λ x y e. cc e)

pub state_law : Law _ IsState state_words
state_law = data_law _ IsState (λ s. StateOf s ∷ []) (λ x y. refl) (λ x h. (h, tt)) (λ x y e. cc e)

generation_data : Generation → List Datum
generation_data g = Number8 g.slot ∷ Number g.birth ∷ []

same_generation : (x y : Generation) → x.slot ≡ y.slot → x.birth ≡ y.birth → x ≡ y
same_generation x y e f = ap (λ (s : ℕ). let g : Generation = record { slot = s; birth = x.birth } in g) e ∙ ap (λ (b : ℕ). let g : Generation = record { slot = y.slot; birth = b } in g) f

pub generation_law : Law Generation IsBorn generation_words
unfolding generation_data
generation_law = data_law Generation IsBorn generation_data (λ x y. refl) (λ x h. (h.0, (h.1, tt))) (λ x y e. same_generation x y (cc e) (cc e))

pub ticked_law : Law SignalChanges AreChanges ticked_words
ticked_law = led_law SignalChanges AreChanges changes_words (codes "ok") refl changes_law

accessed_data : Accessed → List Datum
accessed_data a = Address a.value ∷ Changed a.changes ∷ []

same_accessed : (x y : Accessed) → x.value ≡ y.value → x.changes ≡ y.changes → x ≡ y
same_accessed x y e f = ap (λ (v : ℕ). let a : Accessed = record { value = v; changes = x.changes } in a) e ∙ ap (λ (c : SignalChanges). let a : Accessed = record { value = y.value; changes = c } in a) f

pub accessed_law : Law Accessed IsAccessed accessed_words
unfolding accessed_data
accessed_law = data_law Accessed IsAccessed accessed_data (λ x y. refl) (λ x h. (h.0, (h.1, tt))) (λ x y e. same_accessed x y (cc e) (cc e))

moved_data : Moved → List Datum
moved_data m = Number8 m.vcpu ∷ Number8 m.from ∷ Number8 m.to ∷ []

same_moved : (x y : Moved) → x.vcpu ≡ y.vcpu → x.from ≡ y.from → x.to ≡ y.to → x ≡ y
same_moved x y e f g =
    ap (λ (v : ℕ). let m : Moved = record { vcpu = v; from = x.from; to = x.to } in m) e ∙ ap (λ (v : ℕ). let m : Moved = record { vcpu = y.vcpu; from = v; to = x.to } in m) f
    ∙ ap (λ (v : ℕ). let m : Moved = record { vcpu = y.vcpu; from = y.from; to = v } in m) g

pub moved_law : Law Moved IsMoved moved_words
unfolding moved_data
moved_law =
    led_law Moved IsMoved (λ m. data_words (moved_data m)) (codes "move") refl
    (data_law Moved IsMoved moved_data (λ x y. refl) (λ x h. (h.0, (h.1, (h.2, tt)))) (λ x y e. same_moved x y (cc e) (cc e) (cc e)))

bit_back : List ℕ → Option Bool
bit_back [] = None
bit_back (b ∷ bs) = Some (eqb b 49)

bit_found : (b : Bool) → bit_back (bit_text b) ≡ Some b
unfolding bit_back
bit_found true = refl
bit_found false = refl

same_bit : (b c : Bool) → bit_text b ≡ bit_text c → b ≡ c
same_bit b c e =
    let both : Some b ≡ Some c = sym (bit_found b) ∙ ap bit_back e ∙ bit_found c in
    cc both

bit_lacks : (b : Bool) → lacks_space (bit_text b) ≡ true
bit_lacks true = refl
bit_lacks false = refl

same_sampled : (x y : Sampled) → x.level ≡ y.level → x.changes ≡ y.changes → x ≡ y
same_sampled x y e f = ap (λ (l : Bool). let s : Sampled = record { level = l; changes = x.changes } in s) e ∙ ap (λ (c : SignalChanges). let s : Sampled = record { level = y.level; changes = c } in s) f

pub sampled_law : Law Sampled IsSampled sampled_words
sampled_law = record {
  same = λ x y h k e.
      let levels : bit_text x.level ≡ bit_text y.level = cc e in
      let rests : changes_words x.changes ≡ changes_words y.changes = cc e in
      same_sampled x y (same_bit x.level y.level levels) (changes_law.same x.changes y.changes h k rests);
  free = λ x h. (free_by_test 32 (bit_text x.level) (bit_lacks x.level), changes_law.free x.changes h);
}

-- the outcome that a word begins
abbrev outcome_back : List (List ℕ) → Option Outcome
outcome_back [] = None
outcome_back (word ∷ rest) =
    if is_word word (codes "done") then Some outcome.Done else (
    if is_word word (codes "wait") then Some outcome.Wait else (
    if is_word word (codes "access") then Some outcome.Access else None))

same_outcome : (x y : Outcome) → IsOutcome x → IsOutcome y → outcome_words x ≡ outcome_words y → x ≡ y
same_outcome (outcome.Trap c) (outcome.Trap d) h k e = ap outcome.Trap (decimal_injective c d h k (cc e))
same_outcome (outcome.Trap c) _ h k e = absurd (omega (arith, ap length e))
same_outcome _ (outcome.Trap d) h k e = absurd (omega (arith, ap length e))
same_outcome x y h k e =
    let both : Some x ≡ Some y = ap outcome_back e in
    cc both

outcome_free : (o : Outcome) → IsOutcome o → HaveNoSpace (outcome_words o)
outcome_free outcome.Done h = (free_by_test 32 (codes "done") refl, tt)
outcome_free outcome.Wait h = (free_by_test 32 (codes "wait") refl, tt)
outcome_free outcome.Access h = (free_by_test 32 (codes "access") refl, tt)
outcome_free (outcome.Trap c) h = (free_by_test 32 (codes "trap") refl, data_free (Number c ∷ []) (h, tt))

same_fetched : (x y : Fetched) → x.word ≡ y.word → x.outcome ≡ y.outcome → x ≡ y
same_fetched x y e f = ap (λ (w : ℕ). let i : Fetched = record { word = w; outcome = x.outcome } in i) e ∙ ap (λ (o : Outcome). let i : Fetched = record { word = y.word; outcome = o } in i) f

pub fetched_law : Law Fetched IsFetched fetched_words
fetched_law = record {
  same = λ x y h k e.
      let rests : outcome_words x.outcome ≡ outcome_words y.outcome = cc e in
      same_fetched x y (same_address x.word y.word (outcome_words x.outcome) (outcome_words y.outcome) (omega (arith, h.0)) (omega (arith, k.0)) e) (same_outcome x.outcome y.outcome h.1 k.1 rests);
  free = λ x h. (head_free x.word (omega (arith, h.0)), outcome_free x.outcome h.1);
}
  where
    head_free : (w : ℕ) → IsNumber w → IsFree 32 (address_text w)
    head_free w h = (data_free (Address w ∷ []) (h, tt)).0

-- pins by their digits
abbrev pins_back : List ℕ → Option Pins
pins_back (e ∷ s ∷ t ∷ []) = Some (record { ext = eqb e 49; soft = eqb s 49; timer = eqb t 49 })
pins_back _ = None

pins_of : Bool → Bool → Bool → Pins
pins_of e s t = record { ext = e; soft = s; timer = t }

pins_found : (e s t : Bool) → pins_back (bit_text e ++ bit_text s ++ bit_text t) ≡ Some (pins_of e s t)
unfolding pins_of
pins_found true true true = refl
pins_found true true false = refl
pins_found true false true = refl
pins_found true false false = refl
pins_found false true true = refl
pins_found false true false = refl
pins_found false false true = refl
pins_found false false false = refl

pins_whole : (p : Pins) → pins_of p.ext p.soft p.timer ≡ p
unfolding pins_of
pins_whole p = refl

same_pins : (p q : Pins) → pins_text p ≡ pins_text q → p ≡ q
same_pins p q e =
    let both : Some (pins_of p.ext p.soft p.timer) ≡ Some (pins_of q.ext q.soft q.timer) = sym (pins_found p.ext p.soft p.timer) ∙ ap pins_back e ∙ pins_found q.ext q.soft q.timer in
    let same : pins_of p.ext p.soft p.timer ≡ pins_of q.ext q.soft q.timer = cc both in
    sym (pins_whole p) ∙ same ∙ pins_whole q

pins_lacks : (e s t : Bool) → lacks_space (bit_text e ++ bit_text s ++ bit_text t) ≡ true
pins_lacks true true true = refl
pins_lacks true true false = refl
pins_lacks true false true = refl
pins_lacks true false false = refl
pins_lacks false true true = refl
pins_lacks false true false = refl
pins_lacks false false true = refl
pins_lacks false false false = refl

woken_back : List ℕ → Bool
woken_back text = is_word text (codes "woke")

woken_found : (b : Bool) → woken_back (woken_text b) ≡ b
unfolding woken_back
woken_found true = refl
woken_found false = refl

woken_lacks : (b : Bool) → lacks_space (woken_text b) ≡ true
woken_lacks true = refl
woken_lacks false = refl

same_pinned : (x y : Pinned) → x.pins ≡ y.pins → x.woke ≡ y.woke → x ≡ y
same_pinned x y e f = ap (λ (p : Pins). let i : Pinned = record { pins = p; woke = x.woke } in i) e ∙ ap (λ (w : Bool). let i : Pinned = record { pins = y.pins; woke = w } in i) f

pub pinned_law : Law Pinned IsAny pinned_words
pinned_law = record {
  same = λ x y h k e.
      let pins : pins_text x.pins ≡ pins_text y.pins = cc e in
      let wokes : woken_text x.woke ≡ woken_text y.woke = cc e in
      same_pinned x y (same_pins x.pins y.pins pins) (sym (woken_found x.woke) ∙ ap woken_back wokes ∙ woken_found y.woke);
  free = λ x h. (free_by_test 32 (pins_text x.pins) (pins_lacks x.pins.ext x.pins.soft x.pins.timer), (free_by_test 32 (woken_text x.woke) (woken_lacks x.woke), tt));
}

-- what has two words or more is no single word
pub maybe_law : (A : Type 0) (good : A → Type 0) (shown : A → List (List ℕ)) (missing : List ℕ) → lacks_space missing ≡ true → ((x : A) → 1 < length (shown x)) → Law A good shown → Law (Option A) (IsMaybe good) (maybe_words missing shown)
maybe_law A good shown missing lacks long law = record { same = same; free = free }
  where
    same : (x y : Option A) → IsMaybe good x → IsMaybe good y → maybe_words missing shown x ≡ maybe_words missing shown y → x ≡ y
    same None None h k e = refl
    same None (Some y) h k e = absurd (omega (arith, ap length e, long y))
    same (Some x) None h k e = absurd (omega (arith, ap length e, long x))
    same (Some x) (Some y) h k e = ap Some (law.same x y h k e)

    free : (x : Option A) → IsMaybe good x → HaveNoSpace (maybe_words missing shown x)
    free None h = (free_by_test 32 missing lacks, tt)
    free (Some x) h = law.free x h

ok_apart : (x y : List (List ℕ)) → codes "ok" ∷ x ≡ codes "refused" ∷ y → ⊥
ok_apart x y e = let heads : codes "ok" ≡ codes "refused" = cc e in omega (arith, ap length heads)

pub refused_law : (n : StepName) → Law Refusal (MayRefuse n) refused_words
refused_law n = record {
  same = λ x y h k e. same_refusal x y h.0 k.0 (cc e);
  free = λ x h. (free_by_test 32 (codes "refused") refl, refusal_free x h.0);
}

-- an answer is what is given, or the refusal
pub given_law : (A : Type 0) (good : A → Type 0) (shown : A → List (List ℕ)) (n : StepName) → Law A good shown → Law (Result A Refusal) (IsAnswer good n) (given_words shown)
given_law A good shown n law = record { same = same; free = free }
  where
    same : (x y : Result A Refusal) → IsAnswer good n x → IsAnswer good n y → given_words shown x ≡ given_words shown y → x ≡ y
    same (Ok x) (Ok y) h k e = ap Ok (law.same x y h k (cc e))
    same (Ok x) (Err why) h k e = absurd (ok_apart _ _ e)
    same (Err why) (Ok y) h k e = absurd (ok_apart _ _ (sym e))
    same (Err why) (Err other) h k e = ap Err ((refused_law n).same why other h k e)

    free : (x : Result A Refusal) → IsAnswer good n x → HaveNoSpace (given_words shown x)
    free (Ok x) h = (free_by_test 32 (codes "ok") refl, law.free x h)
    free (Err why) h = (refused_law n).free why h

-- What a function finds in a word is what the word gives.
use Rattle.std.proofs.Common.{◌≡◌, ℕ, zero, suc, ◌+◌, ◌*◌, ◌<◌, ◌≤◌, ltb, leb, eqb, Bool, true, false, not, ◌&&◌, ◌||◌, cond, List, [], ◌∷◌, ◌++◌, length, refl, sym, ap, subst, ◌∙◌, inl, inr, arith}
use Rattle.std.specs.Prelude.{Option, Some, None, Result, Ok, Err, MatchResult, All, codes}
use Rattle.std.specs.Bool.{Decides}
use Rattle.std.specs.Char.{digit_value, is_ascii_alphanumeric, IsAsciiAlphanumeric}
use Rattle.std.specs.Cmp.Lexicographic.{bytes_decides}
use Rattle.std.specs.List.{AllByRecursion, list_all, slice_split, join_with_byte}
use Rattle.std.specs.Option.{option_map}
use Rattle.std.specs.Result.{result_ok}
use Rattle.std.proofs.lemmas.Bool.{eqb-true, eqb-false, ltb-true, leb-true, le-leb, and_parts, ne_eqb}
use Rattle.std.proofs.lemmas.Bool.Decides.{Decides-eqb, Decides-ltb, Decides-not, Decides-and, Decides-or, Decides-by_and, Decides-like, nat_tests}
use Rattle.std.proofs.lemmas.List.{append-nil}
use Rattle.std.proofs.lemmas.List.Elements.{recursion_from_All, All-from_recursion}
use Rattle.std.proofs.lemmas.List.Splits.{join_with_byte-slice_split, slice_split_none, slice_split_at}
use Rattle.hv_text.specs.Front.{IsFree}
use Rattle.hv_text.specs.declared.limits.TheConstants.{VCPUS}
use Rattle.hv_text.specs.Number.{number_of}
use Rattle.hv_text.specs.Path.{IsNameByte, IsName, ArePathNames, slashed, path_text}
use Rattle.hv_text.proofs.Names.{name_free}
use Rattle.hv_words.specs.Text.{Spells, SpellsAll, IsText}
use Rattle.hv_words.specs.Spelled.{BeginsWithByte, digit_pair, escaped, spelled_front}
use Rattle.hv_words.specs.Commands.{Kind, AnyPath, NamedPath, SomeText, RestCount, SomeWord, VcpuNumber, AnyAddress, ByteCount, Argument, PathGiven, TextGiven, NumberGiven, WordGiven, IsCommandPath, Fits, FitAll, IsMisfit, IsPrintable}
use Rattle.hv_words.specs.Rows.{is_word}
use Rattle.hv_words.specs.Said.{where_passes, is_name_byte, is_name, path_of_parts, path_of, command_path, onto_rest, bytes_of, text_of, number_between, argument_of, onto_arguments, arguments_in, is_printable}
use Rattle.hv_words.proofs.Unambiguous.{Content, argument_with, content_of}
use Rattle.hv_words.proofs.TextLemmas.{spelled_is, byte_is_some}

-- a function finds a value exactly where a fact holds of it
pub record Finds {X : Type 0} (o : Option X) (P : X → Type 0) : Type 0 where
  pub found : (x : X) → o ≡ Some x → P x
  pub finds : (x : X) → P x → o ≡ Some x

finds_like : {X : Type 0} (o : Option X) (P Q : X → Type 0) → Finds o P → ((x : X) → P x → Q x) → ((x : X) → Q x → P x) → Finds o Q
finds_like o P Q h there back = record { found = λ x e. there x (h.found x e); finds = λ x q. h.finds x (back x q) }

-- a test of what is found
passed : {X : Type 0} (test : X → Bool) (o : Option X) (x : X) → where_passes test o ≡ Some x → (o ≡ Some x) × (test x ≡ true)
passed test None x e = absurd (cc e)
passed {X = X} test (Some y) x e =
    elim (test y) as (λ t. test y ≡ t → cond t (Some y) None ≡ Some x → (◌≡◌ {A = Option X} (Some y) (Some x)) × (test x ≡ true)) [
      | true ↦ λ is same. (same, subst (λ (z : X). test z ≡ true) (let it : y ≡ x = cc same in it) is)
      | false ↦ λ is same. absurd (cc same)
    ] refl e

passes : {X : Type 0} (test : X → Bool) (o : Option X) (x : X) → o ≡ Some x → test x ≡ true → where_passes test o ≡ Some x
passes {X = X} test o x is true_there = ap (where_passes test) is ∙ ap (λ (t : Bool). cond t (Some x) None) true_there

pub finds_passing : {X : Type 0} (test : X → Bool) (o : Option X) (P Q : X → Type 0) → Finds o P → ((x : X) → Decides (test x) (Q x)) → Finds (where_passes test o) (λ x. P x × Q x)
finds_passing test o P Q h decides = record {
  found = λ x e. let both = passed test o x e in (h.found x both.0, (decides x).0 both.1);
  finds = λ x both. passes test o x (h.finds x both.0) ((decides x).1 both.1);
}

-- names
name_byte_decided : (b : ℕ) → Decides (is_name_byte b) (IsNameByte b)
name_byte_decided b =
    let letters : Decides (is_ascii_alphanumeric b) (IsAsciiAlphanumeric b) = (λ e. grind (arith, nat_tests), λ h. grind (arith, nat_tests)) in
    Decides-or (is_ascii_alphanumeric b) (eqb b 46 || (eqb b 95 || eqb b 45)) letters
    (Decides-or (eqb b 46) (eqb b 95 || eqb b 45) (Decides-eqb b 46) (Decides-or (eqb b 95) (eqb b 45) (Decides-eqb b 95) (Decides-eqb b 45)))

all_decided : {X : Type 0} (p : X → Bool) (P : X → Type 0) → ((x : X) → Decides (p x) (P x)) → (xs : List X) → Decides (list_all p xs) (All P xs)
all_decided p P each xs = Decides-by_and p P (list_all p) each refl (λ _ _. refl) xs

name_decided : (name : List ℕ) → Decides (is_name name) (IsName name)
name_decided name =
    Decides-like (is_name name)
    (λ h. record { some = h.0.0; short = h.0.1; each = h.1.0; not_here = h.1.1.0; not_above = h.1.1.1 })
    (λ h. ((h.some, h.short), (h.each, (h.not_here, h.not_above))))
    (Decides-and (ltb 0 (length name) && ltb (length name) 32) (list_all is_name_byte name && (not (is_word name (codes ".")) && not (is_word name (codes ".."))))
    (Decides-and (ltb 0 (length name)) (ltb (length name) 32) (Decides-ltb 0 (length name)) (Decides-ltb (length name) 32))
    (Decides-and (list_all is_name_byte name) (not (is_word name (codes ".")) && not (is_word name (codes "..")))
    (all_decided is_name_byte IsNameByte name_byte_decided name)
    (Decides-and (not (is_word name (codes "."))) (not (is_word name (codes "..")))
    (Decides-not (is_word name (codes ".")) (bytes_decides name (codes ".")))
    (Decides-not (is_word name (codes "..")) (bytes_decides name (codes ".."))))))

names_decided : (names : List (List ℕ)) → Decides (list_all is_name names) (ArePathNames names)
names_decided names =
    Decides-like (list_all is_name names) (recursion_from_All IsName names) (All-from_recursion IsName names) (all_decided is_name IsName name_decided names)

-- a path's text is parted at its slashes into nothing and its names
abbrev is_slash : ℕ → Bool
is_slash b = eqb b 47

no_slash : (name : List ℕ) → IsFree 47 name → AllByRecursion (λ b. is_slash b ≡ false) name
no_slash [] h = tt
no_slash (b ∷ name) h = (ne_eqb b 47 h.0, no_slash name h.1)

parts_of_names : (n : List ℕ) (ns : List (List ℕ)) → ArePathNames (n ∷ ns) → slice_split is_slash (n ++ slashed ns) ≡ n ∷ ns
parts_of_names n [] h =
    ap (slice_split is_slash) (append-nil n) ∙ slice_split_none is_slash n (All-from_recursion (λ b. is_slash b ≡ false) n (no_slash n (name_free n h.0)))
parts_of_names n (m ∷ ms) h =
    slice_split_at is_slash n 47 (m ++ slashed ms) (All-from_recursion (λ b. is_slash b ≡ false) n (no_slash n (name_free n h.0))) refl
    ∙ ap (λ (ps : List (List ℕ)). n ∷ ps) (parts_of_names m ms h.1)

joined_names : (n : List ℕ) (ns : List (List ℕ)) → 47 ∷ join_with_byte 47 (n ∷ ns) ≡ slashed (n ∷ ns)
joined_names n [] = ap (λ (t : List ℕ). 47 ∷ t) (sym (append-nil n))
joined_names n (m ∷ ms) = ap (λ (t : List ℕ). 47 ∷ (n ++ t)) (joined_names m ms)

path_found : (ps path : List (List ℕ)) → path_of_parts ps ≡ Some path → ArePathNames path × (join_with_byte 47 ps ≡ path_text path)
path_found [] path e = absurd (cc e)
path_found ((b ∷ bs) ∷ ps) path e = absurd (cc e)
path_found ([] ∷ []) path e = absurd (cc e)
path_found ([] ∷ [] ∷ []) path e =
    let root : [] ≡ path = cc e in
    subst (λ (p : List (List ℕ)). ArePathNames p × (47 ∷ [] ≡ path_text p)) root (tt, refl)
path_found ([] ∷ [] ∷ p ∷ ps) path e = absurd (cc e)
path_found ([] ∷ (b ∷ bs) ∷ ps) path e =
    let names = (b ∷ bs) ∷ ps in
    let both = passed (list_all is_name) (Some names) path e in
    let same : names ≡ path = cc (both.0) in
    subst (λ (p : List (List ℕ)). ArePathNames p × (47 ∷ join_with_byte 47 ((b ∷ bs) ∷ ps) ≡ path_text p)) same
    ((names_decided names).0 (subst (λ (p : List (List ℕ)). list_all is_name p ≡ true) (sym same) both.1), joined_names (b ∷ bs) ps)

path_finds : (path : List (List ℕ)) → ArePathNames path → path_of (path_text path) ≡ Some path
path_finds [] h = refl
path_finds ([] ∷ ns) h = absurd (omega (arith, h.0.some))
path_finds ((b ∷ bs) ∷ ns) h =
    let parts : slice_split is_slash (slashed ((b ∷ bs) ∷ ns)) ≡ [] ∷ (b ∷ bs) ∷ ns = ap (λ (ps : List (List ℕ)). [] ∷ ps) (parts_of_names (b ∷ bs) ns h) in
    ap path_of_parts parts ∙ ap (λ (t : Bool). cond t (Some ((b ∷ bs) ∷ ns)) None) ((names_decided ((b ∷ bs) ∷ ns)).1 h)

path_decided : (word : List ℕ) → Finds (path_of word) (λ path. ArePathNames path × (word ≡ path_text path))
path_decided word = record {
  found = λ path e. let p = path_found (slice_split is_slash word) path e in (p.0, sym (join_with_byte-slice_split 47 word) ∙ p.1);
  finds = λ path h. ap path_of h.1 ∙ path_finds path h.0;
}

short_decided : (path : List (List ℕ)) → Decides (leb (length path) 8) (length path ≤ 8)
short_decided path = (leb-true (length path) 8, le-leb (length path) 8)

command_path_decided : (word : List ℕ) → Finds (command_path word) (λ path. IsCommandPath path × (word ≡ path_text path))
command_path_decided word =
    finds_like (command_path word) (λ path. (ArePathNames path × (word ≡ path_text path)) × (length path ≤ 8)) (λ path. IsCommandPath path × (word ≡ path_text path))
    (finds_passing (λ path. leb (length path) 8) (path_of word) (λ path. ArePathNames path × (word ≡ path_text path)) (λ path. length path ≤ 8) (path_decided word) short_decided)
    (λ path h. (record { names = h.0.0; short = h.1 }, h.0.1))
    (λ path h. ((h.0.names, h.1), h.0.short))

-- the byte that a front spells
pair_found : (text : List ℕ) (front : ℕ × List ℕ) → digit_pair text ≡ Some front → (h l : ℕ) × (digit_value h < 16) × (digit_value l < 16) × (text ≡ h ∷ l ∷ front.1) × (front.0 ≡ digit_value h * 16 + digit_value l)
pair_found [] front e = absurd (cc e)
pair_found (h ∷ []) front e = absurd (cc e)
pair_found (h ∷ l ∷ rest) front e =
    let value = digit_value h * 16 + digit_value l in
    elim (ltb (digit_value h) 16 && ltb (digit_value l) 16)
    as (λ t. (ltb (digit_value h) 16 && ltb (digit_value l) 16) ≡ t → cond t (Some (value, rest)) None ≡ Some front → (h' l' : ℕ) × (digit_value h' < 16) × (digit_value l' < 16) × (h ∷ l ∷ rest ≡ h' ∷ l' ∷ front.1) × (front.0 ≡ digit_value h' * 16 + digit_value l')) [
      | true ↦ λ small is.
          let both = and_parts (ltb (digit_value h) 16) (ltb (digit_value l) 16) small in
          let same : ◌≡◌ {A = ℕ × List ℕ} (value, rest) front = cc is in
          (h, l, ltb-true (digit_value h) 16 both.0, ltb-true (digit_value l) 16 both.1, ap (λ (f : ℕ × List ℕ). h ∷ l ∷ f.1) same, sym (ap (λ (f : ℕ × List ℕ). f.0) same))
      | false ↦ λ large is. absurd (cc is)
    ] refl e

-- one test of an escape's letter
letter_found : (letter known byte : ℕ) (rest : List ℕ) (front : ℕ × List ℕ) (other : Option (ℕ × List ℕ)) → Spells (92 ∷ known ∷ []) byte
    → (other ≡ Some front → BeginsWithByte (92 ∷ letter ∷ rest) front.0 front.1)
    → (t : Bool) → eqb letter known ≡ t → cond t (Some (byte, rest)) other ≡ Some front → BeginsWithByte (92 ∷ letter ∷ rest) front.0 front.1
letter_found letter known byte rest front other spells more true is e =
    let same : ◌≡◌ {A = ℕ × List ℕ} (byte, rest) front = cc e in
    subst (λ (f : ℕ × List ℕ). BeginsWithByte (92 ∷ letter ∷ rest) f.0 f.1) same
    (record { piece = 92 ∷ known ∷ []; text_is = ap (λ (c : ℕ). 92 ∷ c ∷ rest) (eqb-true letter known is); spelled = spells })
letter_found letter known byte rest front other spells more false is e = more e

digits_found : (letter : ℕ) (rest : List ℕ) (front : ℕ × List ℕ) → (t : Bool) → eqb letter 120 ≡ t → cond t (digit_pair rest) None ≡ Some front → BeginsWithByte (92 ∷ letter ∷ rest) front.0 front.1
digits_found letter rest front false is e = absurd (cc e)
digits_found letter rest front true is e =
    let p = pair_found rest front e in
    record {
      piece = 92 ∷ 120 ∷ p.0 ∷ p.1 ∷ [];
      text_is = cc (eqb-true letter 120 is, p.4);
      spelled = inr (inr (inr (inr (record { high = p.0; low = p.1; high_digit = p.2; low_digit = p.3; piece_is = refl; value = p.5 }))));
    }

escape_found : (rest : List ℕ) (front : ℕ × List ℕ) → escaped rest ≡ Some front → BeginsWithByte (92 ∷ rest) front.0 front.1
escape_found [] front e = absurd (cc e)
escape_found (c ∷ rest) front e =
    let hex = cond (eqb c 120) (digit_pair rest) None in
    let space = cond (eqb c 115) (Some (32, rest)) hex in
    let feed = cond (eqb c 110) (Some (10, rest)) space in
    letter_found c 92 92 rest front feed (inr (inl (refl, refl)))
    (λ f. letter_found c 110 10 rest front space (inr (inr (inl (refl, refl))))
    (λ s. letter_found c 115 32 rest front hex (inr (inr (inr (inl (refl, refl)))))
    (λ x. digits_found c rest front (eqb c 120) refl x) (eqb c 115) refl s) (eqb c 110) refl f) (eqb c 92) refl e

byte_found : (b : ℕ) (rest : List ℕ) (front : ℕ × List ℕ) → (t : Bool) → eqb b 92 ≡ t → cond t (escaped rest) (Some (b, rest)) ≡ Some front → BeginsWithByte (b ∷ rest) front.0 front.1
byte_found b rest front true is e =
    subst (λ (c : ℕ). BeginsWithByte (c ∷ rest) front.0 front.1) (sym (eqb-true b 92 is)) (escape_found rest front e)
byte_found b rest front false is e =
    let same : ◌≡◌ {A = ℕ × List ℕ} (b, rest) front = cc e in
    subst (λ (f : ℕ × List ℕ). BeginsWithByte (b ∷ rest) f.0 f.1) same
    (record { piece = b ∷ []; text_is = refl; spelled = inl (eqb-false b 92 is, refl) })

-- bytes one after the other
rest_found : (most : ℕ) → ((text bytes : List ℕ) → bytes_of most text ≡ Some bytes → SpellsAll text bytes)
    → (text bytes : List ℕ) (front : ℕ × List ℕ) → BeginsWithByte text front.0 front.1 → (r : Option (List ℕ)) → bytes_of most front.1 ≡ r → option_map (λ more. front.0 ∷ more) r ≡ Some bytes → SpellsAll text bytes
rest_found most found text bytes front begins None is e = absurd (cc e)
rest_found most found text bytes front begins (Some more) is e =
    let same : front.0 ∷ more ≡ bytes = cc e in
    subst (λ (bs : List ℕ). SpellsAll text bs) same (begins.piece, front.1, begins.text_is, begins.spelled, found front.1 more is)

front_found : (most : ℕ) → ((text bytes : List ℕ) → bytes_of most text ≡ Some bytes → SpellsAll text bytes)
    → (b : ℕ) (rest bytes : List ℕ) (o : Option (ℕ × List ℕ)) → spelled_front (b ∷ rest) ≡ o → onto_rest (bytes_of most) o ≡ Some bytes → SpellsAll (b ∷ rest) bytes
front_found most found b rest bytes None is e = absurd (cc e)
front_found most found b rest bytes (Some front) is e =
    rest_found most found (b ∷ rest) bytes front (byte_found b rest front (eqb b 92) refl is) (bytes_of most front.1) refl e

no_bytes : (bytes : List ℕ) → Some [] ≡ Some bytes → SpellsAll [] bytes
no_bytes bytes e = let none : [] ≡ bytes = cc e in subst (λ (bs : List ℕ). SpellsAll [] bs) none refl

bytes_found : (most : ℕ) (text bytes : List ℕ) → bytes_of most text ≡ Some bytes → SpellsAll text bytes
bytes_found zero [] bytes e = no_bytes bytes e
bytes_found zero (b ∷ rest) bytes e = absurd (cc e)
bytes_found (suc most) [] bytes e = no_bytes bytes e
bytes_found (suc most) (b ∷ rest) bytes e =
    front_found most (λ text more is. bytes_found most text more is) b rest bytes (spelled_front (b ∷ rest)) refl e

none_of_nothing : (most : ℕ) → bytes_of most [] ≡ Some []
none_of_nothing zero = refl
none_of_nothing (suc most) = refl

bytes_find : (most : ℕ) (text bytes : List ℕ) → length text ≤ most → SpellsAll text bytes → bytes_of most text ≡ Some bytes
bytes_find most text [] le h = ap (bytes_of most) h ∙ none_of_nothing most
bytes_find zero text (c ∷ bytes) le h = absurd (omega (arith, le, byte_is_some text c h.1 (record { piece = h.0; text_is = h.2; spelled = h.3 })))
bytes_find (suc most) [] (c ∷ bytes) le h = absurd (omega (arith, byte_is_some [] c h.1 (record { piece = h.0; text_is = h.2; spelled = h.3 })))
bytes_find (suc most) (b ∷ rest) (c ∷ bytes) le h =
    let shorter = byte_is_some (b ∷ rest) c h.1 (record { piece = h.0; text_is = h.2; spelled = h.3 }) in
    ap (onto_rest (bytes_of most)) (ap spelled_front h.2 ∙ spelled_is h.0 h.1 c h.3)
    ∙ ap (λ (o : Option (List ℕ)). option_map (λ more. c ∷ more) o) (bytes_find most h.1 bytes (omega (arith, le, shorter)) h.4)

text_decided : (word : List ℕ) → Finds (text_of word) (λ bytes. IsText word bytes)
text_decided word =
    let spelled : Finds (bytes_of (length word) word) (λ bytes. SpellsAll word bytes) = record {
      found = λ bytes e. bytes_found (length word) word bytes e;
      finds = λ bytes h. bytes_find (length word) word bytes (omega arith) h;
    } in
    finds_like (text_of word) (λ bytes. SpellsAll word bytes × (0 < length bytes)) (λ bytes. IsText word bytes)
    (finds_passing (λ bytes. ltb 0 (length bytes)) (bytes_of (length word) word) (λ bytes. SpellsAll word bytes) (λ bytes. 0 < length bytes) spelled (λ bytes. Decides-ltb 0 (length bytes)))
    (λ bytes h. record { some = h.1; spelled = h.0 })
    (λ bytes h. (h.spelled, h.some))

-- numbers
ok_found : {E : Type 0} (r : Result ℕ E) (n : ℕ) → result_ok r ≡ Some n → r ≡ Ok n
ok_found (Ok m) n e = let same : m ≡ n = cc e in ap Ok same
ok_found (Err x) n e = absurd (cc e)

number_decided : (word : List ℕ) → Finds (result_ok (number_of word)) (λ n. number_of word ≡ Ok n)
number_decided word = record { found = λ n e. ok_found (number_of word) n e; finds = λ n e. ap result_ok e }

range_decided : (low high n : ℕ) → Decides (leb low n && leb n high) ((low ≤ n) × (n ≤ high))
range_decided low high n =
    Decides-and (leb low n) (leb n high) (leb-true low n, le-leb low n) (leb-true n high, le-leb n high)

pub between_decided : (low high : ℕ) (word : List ℕ) → Finds (number_between low high word) (λ n. (number_of word ≡ Ok n) × ((low ≤ n) × (n ≤ high)))
between_decided low high word =
    finds_passing (λ n. leb low n && leb n high) (result_ok (number_of word)) (λ n. number_of word ≡ Ok n) (λ n. (low ≤ n) × (n ≤ high)) (number_decided word) (range_decided low high)

vcpu_decided : (word : List ℕ) → Finds (where_passes (λ n. ltb n VCPUS) (result_ok (number_of word))) (λ n. (number_of word ≡ Ok n) × (n < VCPUS))
vcpu_decided word =
    finds_passing (λ n. ltb n VCPUS) (result_ok (number_of word)) (λ n. number_of word ≡ Ok n) (λ n. n < VCPUS) (number_decided word) (λ n. Decides-ltb n VCPUS)

-- an argument
mapped : {X : Type 0} (f : X → Argument) (o : Option X) (a : Argument) → option_map f o ≡ Some a → (x : X) × (o ≡ Some x) × (f x ≡ a)
mapped f None a e = absurd (cc e)
mapped {X = X} f (Some x) a e = let same : f x ≡ a = cc e in (x, refl, same)

-- a kind whose arguments are all made of what is found
pub argument_found : {X : Type 0} (k : Kind) (word : List ℕ) (f : X → Argument) (o : Option X) (P : X → Type 0) → Finds o P → ((x : X) → P x → Fits k word (f x))
    → (a : Argument) → option_map f o ≡ Some a → Fits k word a
argument_found k word f o P h there a e =
    let m = mapped f o a e in
    subst (Fits k word) m.2 (there m.0 (h.found m.0 m.1))

named_decided : (word : List ℕ) → Finds (where_passes (λ path. ltb 0 (length path)) (command_path word)) (λ path. (IsCommandPath path × (word ≡ path_text path)) × (0 < length path))
named_decided word =
    finds_passing (λ path. ltb 0 (length path)) (command_path word) (λ path. IsCommandPath path × (word ≡ path_text path)) (λ path. 0 < length path) (command_path_decided word) (λ path. Decides-ltb 0 (length path))

found_fits : (k : Kind) (word : List ℕ) (a : Argument) → argument_of k word ≡ Some a → Fits k word a
found_fits AnyPath word a e =
    argument_found AnyPath word PathGiven (command_path word) (λ path. IsCommandPath path × (word ≡ path_text path)) (command_path_decided word) (λ path h. h) a e
found_fits NamedPath word a e =
    argument_found NamedPath word PathGiven (where_passes (λ path. ltb 0 (length path)) (command_path word)) (λ path. (IsCommandPath path × (word ≡ path_text path)) × (0 < length path)) (named_decided word) (λ path h. (h.0.0, h.1, h.0.1)) a e
found_fits SomeText word a e =
    argument_found SomeText word TextGiven (text_of word) (λ bytes. IsText word bytes) (text_decided word) (λ bytes h. h) a e
found_fits RestCount word a e =
    argument_found RestCount word NumberGiven (number_between 1 10000 word) (λ n. (number_of word ≡ Ok n) × ((1 ≤ n) × (n ≤ 10000))) (between_decided 1 10000 word) (λ n h. (h.0, h.1.0, h.1.1)) a e
found_fits SomeWord word a e = let same : WordGiven word ≡ a = cc e in subst (Fits SomeWord word) same refl
found_fits VcpuNumber word a e =
    argument_found VcpuNumber word NumberGiven (where_passes (λ n. ltb n VCPUS) (result_ok (number_of word))) (λ n. (number_of word ≡ Ok n) × (n < VCPUS)) (vcpu_decided word) (λ n h. h) a e
found_fits AnyAddress word a e =
    argument_found AnyAddress word NumberGiven (result_ok (number_of word)) (λ n. number_of word ≡ Ok n) (number_decided word) (λ n h. h) a e
found_fits ByteCount word a e =
    argument_found ByteCount word NumberGiven (number_between 1 256 word) (λ n. (number_of word ≡ Ok n) × ((1 ≤ n) × (n ≤ 256))) (between_decided 1 256 word) (λ n h. (h.0, h.1.0, h.1.1)) a e

content_found : (k : Kind) (word : List ℕ) (x : Content k) → Fits k word (argument_with k x) → argument_of k word ≡ Some (argument_with k x)
content_found AnyPath word path h = ap (option_map PathGiven) ((command_path_decided word).finds path h)
content_found NamedPath word path h = ap (option_map PathGiven) ((named_decided word).finds path ((h.0, h.2), h.1))
content_found SomeText word bytes h = ap (option_map TextGiven) ((text_decided word).finds bytes h)
content_found RestCount word n h = ap (option_map NumberGiven) ((between_decided 1 10000 word).finds n (h.0, (h.1, h.2)))
content_found SomeWord word given h = ap (λ (w : List ℕ). Some (WordGiven w)) (sym h)
content_found VcpuNumber word n h = ap (option_map NumberGiven) ((vcpu_decided word).finds n h)
content_found AnyAddress word n h = ap (option_map NumberGiven) ((number_decided word).finds n h)
content_found ByteCount word n h = ap (option_map NumberGiven) ((between_decided 1 256 word).finds n (h.0, (h.1, h.2)))

fitting_found : (k : Kind) (word : List ℕ) (a : Argument) → Fits k word a → argument_of k word ≡ Some a
fitting_found k word a h =
    let x = content_of k word a h in
    content_found k word x.0 (subst (Fits k word) x.1 h) ∙ ap (λ (b : Argument). Some b) (sym x.1)

-- what is found in a word is what the word gives as an argument
pub argument_decided : (k : Kind) (word : List ℕ) → Finds (argument_of k word) (λ a. Fits k word a)
argument_decided k word = record { found = found_fits k word; finds = fitting_found k word }

onto_told : (k : Kind) (ks : List Kind) (w : List ℕ) (ws : List (List ℕ)) (at : ℕ) (o : Option Argument) → argument_of k w ≡ o
    → (later : Result (List Argument) ℕ) → MatchResult later (λ given. FitAll ks ws given) (λ n. IsMisfit ks ws (at + 1) n)
    → MatchResult (onto_arguments o at later) (λ given. FitAll (k ∷ ks) (w ∷ ws) given) (λ n. IsMisfit (k ∷ ks) (w ∷ ws) at n)
onto_told k ks w ws at None is later h =
    inl ((λ a fits. let some : None ≡ Some a = sym is ∙ fitting_found k w a fits in absurd (cc some)), refl)
onto_told k ks w ws at (Some a) is (Ok given) h = (found_fits k w a is, h)
onto_told k ks w ws at (Some a) is (Err n) h = inr (a, found_fits k w a is, h)

-- where words fit, what they give is found, and else the first misfit
pub arguments_told : (ks : List Kind) (ws : List (List ℕ)) (at : ℕ) → MatchResult (arguments_in ks ws at) (λ given. FitAll ks ws given) (λ n. IsMisfit ks ws at n)
arguments_told [] [] at = tt
arguments_told [] (w ∷ ws) at = refl
arguments_told (k ∷ ks) [] at = refl
arguments_told (k ∷ ks) (w ∷ ws) at =
    onto_told k ks w ws at (argument_of k w) refl (arguments_in ks ws (at + 1)) (arguments_told ks ws (at + 1))

-- whether a line is printable
pub printable_decided : (line : List ℕ) → Decides (is_printable line) (IsPrintable line)
printable_decided line = all_decided (λ b. leb 32 b && leb b 126) (λ b. (32 ≤ b) × (b ≤ 126)) (range_decided 32 126) line

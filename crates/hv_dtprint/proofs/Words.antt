-- Names of a tree as words of a source.
use Rattle.std.proofs.Common.{◌≡◌, ℕ, suc, ◌+◌, ◌<◌, Bool, true, false, cond, List, [], ◌∷◌, ◌++◌, length, take, drop, refl, ap, ◌∙◌, arith, inl, inr}
use Rattle.std.specs.Prelude.{Option, Some, None, ◌⊎◌, ◌&&◌, ◌||◌, not, ◌==◌, nat_eq, nat_lt, if◌then◌else◌, codes}
use Rattle.std.specs.Option.{option_and_then, option_or}
use Rattle.std.specs.List.{list_all, list_any, prefix_len, starts_with}
use Rattle.std.specs.Char.{is_ascii_alphanumeric}
use Rattle.std.specs.Cmp.Lexicographic.{pointwise}
use Rattle.std.proofs.lemmas.Bool.{lt-ltb, ltb-true}
use Rattle.std.proofs.lemmas.List.{drop_at, length-append}
use Rattle.hv_dtree.specs.Names.{IsNodeByte, IsPropByte, IsPropName, IsUnitAddress, IsNodeName}
use Rattle.hv_dtlex.specs.Class.{is_name_byte, is_word_byte}
use Rattle.hv_dtlex.specs.Blank.{is_space, blank_len}
use Rattle.hv_dtlex.specs.Tokens.{Form, fixed_form, run_form, label_form, root_form, name_mark, name_form}
use Rattle.hv_dtlex.specs.declared.token.TokenKind.{TokenKind}
use Rattle.hv_dtlex.specs.declared.token.TokenKind.TheVariants.{Version, Root, NodeOpen, NodeClose, Semicolon, Equals, Label, Word}
use Rattle.hv_dtgram.specs.Lexed.{is_node_byte, is_prop_byte, is_prop_name, is_unit_address, is_node_name}
use Rattle.hv_dtprint.proofs.Tests.{and_both, both, or_cases, or_first, or_second, not_true, all_below, at_below, at_any, any_from, any_more, alphanumeric, alphanumeric_top, passed, all_join, run_is}

-- bytes of names
node_byte : (b : ℕ) → IsNodeByte b → is_node_byte b ≡ true
node_byte b it = elim it [
  | inl letter ↦ or_first (is_ascii_alphanumeric b) _ (alphanumeric b letter)
  | inr mark ↦ or_second (is_ascii_alphanumeric b) _ (any_from (codes ",._+-") b mark)
]

prop_byte : (b : ℕ) → IsPropByte b → is_prop_byte b ≡ true
prop_byte b it = elim it [
  | inl letter ↦ or_first (is_ascii_alphanumeric b) _ (alphanumeric b letter)
  | inr mark ↦ or_second (is_ascii_alphanumeric b) _ (any_from (codes ",._+-?#") b mark)
]

word_of_node : (b : ℕ) → is_node_byte b ≡ true → is_word_byte b ≡ true
word_of_node b e = elim (or_cases (is_ascii_alphanumeric b) (list_any (λ mark. mark == b) (codes ",._+-")) e) [
  | inl letter ↦ or_first (is_ascii_alphanumeric b) _ letter
  | inr mark ↦ or_second (is_ascii_alphanumeric b) _ (any_more (λ mark. mark == b) (codes ",._+-") (codes "?#@") mark)
]

word_of_prop : (b : ℕ) → is_prop_byte b ≡ true → is_word_byte b ≡ true
word_of_prop b e = elim (or_cases (is_ascii_alphanumeric b) (list_any (λ mark. mark == b) (codes ",._+-?#")) e) [
  | inl letter ↦ or_first (is_ascii_alphanumeric b) _ letter
  | inr mark ↦ or_second (is_ascii_alphanumeric b) _ (any_more (λ mark. mark == b) (codes ",._+-?#") (codes "@") mark)
]

pass_more : (p q : ℕ → Bool) → ((b : ℕ) → p b ≡ true → q b ≡ true) → (xs : List ℕ) → list_all p xs ≡ true → list_all q xs ≡ true
pass_more p q says [] all = refl
pass_more p q says (x ∷ xs) all =
    let parts = and_both (p x) (list_all p xs) all in
    both (q x) (list_all q xs) (says x parts.0) (pass_more p q says xs parts.1)

-- the names of properties
pub prop_name : (name : List ℕ) → IsPropName name → is_prop_name name ≡ true
prop_name name it =
    both (nat_lt 0 (length name)) _ (lt-ltb 0 (length name) it.some)
    (both (nat_lt (length name) 32) _ (lt-ltb (length name) 32 it.short) (passed IsPropByte is_prop_byte prop_byte name it.each))

pub prop_word : (name : List ℕ) → IsPropName name → list_all is_word_byte name ≡ true
prop_word name it = pass_more is_prop_byte is_word_byte word_of_prop name (passed IsPropByte is_prop_byte prop_byte name it.each)

-- the names of nodes
stop_at : (rest : List ℕ) → ((rest ≡ []) ⊎ IsUnitAddress rest) → prefix_len is_node_byte rest ≡ 0
stop_at rest it = elim it [
  | inl none ↦ ap (prefix_len is_node_byte) none
  | inr unit ↦ ap (prefix_len is_node_byte) unit.parts
]

unit_tested : (rest : List ℕ) → ((rest ≡ []) ⊎ IsUnitAddress rest) → is_unit_address rest ≡ true
unit_tested rest it = elim it [
  | inl none ↦ ap is_unit_address none
  | inr unit ↦ ap is_unit_address unit.parts
      ∙ both (nat_lt 0 (length unit.unit)) _ (lt-ltb 0 (length unit.unit) unit.some) (passed IsNodeByte is_node_byte node_byte unit.unit unit.each)
]

unit_words : (rest : List ℕ) → ((rest ≡ []) ⊎ IsUnitAddress rest) → list_all is_word_byte rest ≡ true
unit_words rest it = elim it [
  | inl none ↦ ap (list_all is_word_byte) none
  | inr unit ↦ ap (list_all is_word_byte) unit.parts
      ∙ pass_more is_node_byte is_word_byte word_of_node unit.unit (passed IsNodeByte is_node_byte node_byte unit.unit unit.each)
]

base_test : ℕ → List ℕ → Bool
base_test base word = nat_lt 0 base && (nat_lt base 32 && is_unit_address (drop base word))

pub node_name : (name : List ℕ) → IsNodeName name → is_node_name name ≡ true
unfolding base_test
node_name name it =
    let base_all : list_all is_node_byte it.base ≡ true = passed IsNodeByte is_node_byte node_byte it.base it.each in
    let run : prefix_len is_node_byte name ≡ length it.base = ap (prefix_len is_node_byte) it.parts ∙ run_is is_node_byte it.base it.rest base_all (stop_at it.rest it.unit) in
    let behind : drop (length it.base) name ≡ it.rest = ap (drop (length it.base)) it.parts ∙ drop_at it.base it.rest (length it.base) refl in
    ap (λ (n : ℕ). base_test n name) run
    ∙ both (nat_lt 0 (length it.base)) _ (lt-ltb 0 (length it.base) it.some)
    (both (nat_lt (length it.base) 32) _ (lt-ltb (length it.base) 32 it.short) (ap is_unit_address behind ∙ unit_tested it.rest it.unit))

pub node_word : (name : List ℕ) → IsNodeName name → list_all is_word_byte name ≡ true
node_word name it =
    ap (list_all is_word_byte) it.parts
    ∙ all_join is_word_byte it.base it.rest (pass_more is_node_byte is_word_byte word_of_node it.base (passed IsNodeByte is_node_byte node_byte it.base it.each)) (unit_words it.rest it.unit)

pub node_some : (name : List ℕ) → IsNodeName name → 0 < length name
node_some name it = omega (arith, it.some, ap length it.parts, length-append it.base it.rest)

-- no byte of a word is a mark or space
abbrev clean : ℕ → Bool
clean d = not (is_space d) && (not (nat_eq 47 d) && (not (nat_eq 123 d) && (not (nat_eq 125 d) && (not (nat_eq 59 d) && (not (nat_eq 61 d) && not (nat_eq 58 d))))))

word_test : ℕ → Bool
word_test d = not (is_word_byte d) || clean d

words_tested : all_below word_test 128 ≡ true
unfolding word_test
words_tested = refl

word_low : (d : ℕ) → is_word_byte d ≡ true → d < 128
word_low d e = elim (or_cases (is_ascii_alphanumeric d) (list_any (λ mark. mark == d) (codes ",._+-?#@")) e) [
  | inl letter ↦ (let top = alphanumeric_top d letter in omega (arith, top))
  | inr mark ↦ (let low = at_any (λ m. nat_lt m 128) (codes ",._+-?#@") d mark refl in ltb-true d 128 low)
]

is_clean : (word good : Bool) → word ≡ true → (not word || good) ≡ true → good ≡ true
is_clean true good e all = all
is_clean false good e all = absurd (cc e)

word_clean : (d : ℕ) → is_word_byte d ≡ true → clean d ≡ true
unfolding word_test
word_clean d e = is_clean (is_word_byte d) (clean d) e (at_below word_test 128 d words_tested (word_low d e))

-- what a byte of a word isn't
record IsClean (d : ℕ) : Type 0 where
  space : is_space d ≡ false
  slash : nat_eq 47 d ≡ false
  open_brace : nat_eq 123 d ≡ false
  close_brace : nat_eq 125 d ≡ false
  semicolon : nat_eq 59 d ≡ false
  equals : nat_eq 61 d ≡ false
  colon : nat_eq 58 d ≡ false

cleaned : (d : ℕ) → is_word_byte d ≡ true → IsClean d
cleaned d e =
    let a = and_both (not (is_space d)) _ (word_clean d e) in
    let b = and_both (not (nat_eq 47 d)) _ a.1 in
    let c = and_both (not (nat_eq 123 d)) _ b.1 in
    let f = and_both (not (nat_eq 125 d)) _ c.1 in
    let g = and_both (not (nat_eq 59 d)) _ f.1 in
    let h = and_both (not (nat_eq 61 d)) _ g.1 in
    record {
      space = not_true _ a.0;
      slash = not_true _ b.0;
      open_brace = not_true _ c.0;
      close_brace = not_true _ f.0;
      semicolon = not_true _ g.0;
      equals = not_true _ h.0;
      colon = not_true _ h.1;
    }

-- fixed bytes that do not stand there
pub starts_not : (k : ℕ) (ks : List ℕ) (d : ℕ) (text : List ℕ) → nat_eq k d ≡ false → starts_with nat_eq (d ∷ text) (k ∷ ks) ≡ false
starts_not k ks d text e = ap (λ (b : Bool). b && pointwise nat_eq ks (take (length ks) text)) e

pub fixed_not : (k : ℕ) (ks : List ℕ) (kind : TokenKind) (d : ℕ) (text : List ℕ) → nat_eq k d ≡ false → fixed_form (k ∷ ks) kind (d ∷ text) ≡ None
fixed_not k ks kind d text e = ap (λ (b : Bool). if b then Some (kind, length (k ∷ ks)) else None) (starts_not k ks d text e)

pub or_next : {X : Type 0} (a b : Option X) → a ≡ None → option_or a b ≡ b
or_next a b e = ap (λ o. option_or o b) e

blank_if : (space double comment : Bool) (line block : ℕ) → space ≡ false → double ≡ false → comment ≡ false → (if space then 1 else (if double then line else (if comment then block else 0))) ≡ 0
blank_if true double comment line block e f g = absurd (cc e)
blank_if false true comment line block e f g = absurd (cc f)
blank_if false false true line block e f g = absurd (cc g)
blank_if false false false line block e f g = refl

-- no blank stands before such a byte
pub blank_not : (d : ℕ) (text : List ℕ) → is_space d ≡ false → nat_eq 47 d ≡ false → blank_len (d ∷ text) ≡ 0
blank_not d text space slash = blank_if (is_space d) _ _ _ _ space (starts_not 47 (codes "/") d text slash) (starts_not 47 (codes "*") d text slash)

-- a byte that ends a word
pub record IsStop (stop : ℕ) : Type 0 where
  pub word : is_word_byte stop ≡ false
  pub name : is_name_byte stop ≡ false
  pub colon : nat_eq 58 stop ≡ false

colon_here : (d : ℕ) (text : List ℕ) (run : ℕ) (is_name : Bool) → nat_eq 58 d ≡ false → starts_with nat_eq (drop run text) (codes ":") ≡ false → starts_with nat_eq (drop (cond is_name (1 + run) 0) (d ∷ text)) (codes ":") ≡ false
colon_here d text run true here there =
    let grow : 1 + run ≡ suc run = omega arith in
    ap (λ (n : ℕ). starts_with nat_eq (drop n (d ∷ text)) (codes ":")) grow ∙ there
colon_here d text run false here there = starts_not 58 [] d text here

no_colon : (name rest : List ℕ) (stop : ℕ) → list_all is_word_byte name ≡ true → IsStop stop
    → starts_with nat_eq (drop (prefix_len is_name_byte (name ++ stop ∷ rest)) (name ++ stop ∷ rest)) (codes ":") ≡ false
no_colon [] rest stop all it =
    ap (λ (b : Bool). starts_with nat_eq (drop (cond b (1 + prefix_len is_name_byte rest) 0) (stop ∷ rest)) (codes ":")) it.name ∙ starts_not 58 [] stop rest it.colon
no_colon (d ∷ name) rest stop all it =
    let parts = and_both (is_word_byte d) (list_all is_word_byte name) all in
    colon_here d (name ++ stop ∷ rest) (prefix_len is_name_byte (name ++ stop ∷ rest)) (is_name_byte d) (cleaned d parts.0).colon (no_colon name rest stop parts.1 it)

abbrev label_if : Bool → ℕ → Option Form
label_if colon len = if colon then Some (Label, len + 1) else None

label_at : (text : List ℕ) (len : ℕ) (is_name : Bool) → starts_with nat_eq (drop len text) (codes ":") ≡ false
    → option_and_then (λ n. label_if (starts_with nat_eq (drop n text) (codes ":")) n) (if is_name then Some len else None) ≡ None
label_at text len true e = ap (λ (b : Bool). label_if b len) e
label_at text len false e = refl

label_not : (text : List ℕ) → starts_with nat_eq (drop (prefix_len is_name_byte text) text) (codes ":") ≡ false → label_form text ≡ None
unfolding label_form
label_not text e = label_at text (prefix_len is_name_byte text) _ e

root_not : (d : ℕ) (text : List ℕ) → nat_eq 47 d ≡ false → root_form (d ∷ text) ≡ None
unfolding root_form
root_not d text e =
    ap (λ (b : Bool). if b then None else fixed_form (codes "/") Root (d ∷ text)) (starts_not 47 (codes "*") d text e)
    ∙ fixed_not 47 [] Root d text e

mark_not : (d : ℕ) (text : List ℕ) → is_word_byte d ≡ true → name_mark (d ∷ text) ≡ None
unfolding name_mark
mark_not d text e =
    let it = cleaned d e in
    or_next _ _ (fixed_not 123 [] NodeOpen d text it.open_brace)
    ∙ or_next _ _ (fixed_not 125 [] NodeClose d text it.close_brace)
    ∙ or_next _ _ (fixed_not 59 [] Semicolon d text it.semicolon)
    ∙ fixed_not 61 [] Equals d text it.equals

-- a name is a word
pub word_form : (name rest : List ℕ) (stop : ℕ) → list_all is_word_byte name ≡ true → 0 < length name → IsStop stop → name_form (name ++ stop ∷ rest) ≡ Some (Word, length name)
unfolding name_form
word_form [] rest stop all some it = absurd (omega arith)
word_form (d ∷ name) rest stop all some it =
    let parts = and_both (is_word_byte d) (list_all is_word_byte name) all in
    let clear = cleaned d parts.0 in
    let text = name ++ stop ∷ rest in
    let ends : prefix_len is_word_byte (stop ∷ rest) ≡ 0 = ap (λ (b : Bool). cond b (1 + prefix_len is_word_byte rest) 0) it.word in
    let run : prefix_len is_word_byte (d ∷ text) ≡ length (d ∷ name) = run_is is_word_byte (d ∷ name) (stop ∷ rest) all ends in
    or_next _ _ (fixed_not 47 (codes "dts-v1/") Version d text clear.slash)
    ∙ or_next _ _ (root_not d text clear.slash)
    ∙ or_next _ _ (mark_not d text parts.0)
    ∙ or_next _ _ (label_not (d ∷ text) (no_colon (d ∷ name) rest stop all it))
    ∙ ap (run_form Word) run
    ∙ ap (λ (b : Bool). if b then Some (Word, length (d ∷ name)) else None) (lt-ltb 0 (length (d ∷ name)) some)

-- no blank stands before a name
pub word_blank : (name rest : List ℕ) → list_all is_word_byte name ≡ true → 0 < length name → blank_len (name ++ rest) ≡ 0
word_blank [] rest all some = absurd (omega arith)
word_blank (d ∷ name) rest all some =
    let parts = and_both (is_word_byte d) (list_all is_word_byte name) all in
    let clear = cleaned d parts.0 in
    blank_not d (name ++ rest) clear.space clear.slash

-- a space and a semicolon end a word
pub space_stops : IsStop 32
space_stops = record { word = refl; name = refl; colon = refl }

pub semicolon_stops : IsStop 59
semicolon_stops = record { word = refl; name = refl; colon = refl }

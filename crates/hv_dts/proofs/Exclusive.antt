-- A text that is refused is refused in one way.
use Rattle.std.proofs.Common.{◌≡◌, ℕ, ◌+◌, ◌<◌, ◌≤◌, List, ◌++◌, length, take, drop, sym, ap, subst, ◌∙◌, arith, inl, inr, Ok, Err, take-append-drop}
use Rattle.std.specs.Prelude.{Option, Some, None}
use Rattle.std.specs.List.{slice_get}
use Rattle.std.proofs.lemmas.Bool.{cases_lt}
use Rattle.std.proofs.lemmas.List.{take_all, take-append-le, length-take-le, length-map}
use Rattle.std.proofs.lemmas.Option.{slice_get_past}
use Rattle.hv_dtlex.specs.declared.token.Token.{Token}
use Rattle.hv_dtlex.specs.declared.token.Mode.TheVariants.{Name}
use Rattle.hv_dtree.specs.declared.node.Node.{Node}
use Rattle.hv_dtgram.specs.declared.symbol.Symbol.{Symbol}
use Rattle.hv_dtgram.specs.Source.{IsSource, IsUnexpectedAt}
use Rattle.hv_dtgram.specs.Lexed.{symbol_of, symbols_of, IsBadTokenAt, IsStart, IsUnexpectedIn}
use Rattle.hv_dtgram.proofs.Lexing.{lexes_same, not_unexpected}
use Rattle.hv_dts.specs.Rules.{broken_rule}
use Rattle.hv_dts.specs.Reading.{IsSourceOf, Breaks, IsRefusedAs, IsAnswer}
use Rattle.hv_dts.specs.declared.refusal.DtsRefusal.{DtsRefusal}
use Rattle.hv_dts.specs.declared.refusal.DtsRefusal.TheVariants as refusal
use Rattle.hv_dts.proofs.Unique.{written_same, source_of, not_refused}

-- a front of a front
more_of : (xs rest : List Symbol) (k q : ℕ) → k ≤ q → q ≤ length xs → take k xs ++ drop k (take q xs ++ rest) ≡ take q xs ++ rest
more_of xs rest k q up within =
    let size : length (take q xs) ≡ q = length-take-le q xs within in
    let le : k ≤ length (take q xs) = omega arith in
    let inner : take k xs ≡ take k (take q xs) = ap (take k) (sym (take-append-drop q xs)) ∙ take-append-le k (take q xs) (drop q xs) le in
    let outer : take k (take q xs ++ rest) ≡ take k (take q xs) = take-append-le k (take q xs) rest le in
    ap (λ (t : List Symbol). t ++ drop k (take q xs ++ rest)) (inner ∙ sym outer) ∙ take-append-drop k (take q xs ++ rest)

not_later : (symbols rest : List Symbol) (place q : ℕ) → IsUnexpectedAt symbols place → place < q → q ≤ length symbols → IsSource (take q symbols ++ rest) → ⊥
not_later symbols rest place q unexpected lt within source =
    unexpected.not_here (omega arith) (drop (place + 1) (take q symbols ++ rest)) (subst IsSource (sym (more_of symbols rest (place + 1) q (omega arith) within)) source)

place_same : (symbols : List Symbol) (p q : ℕ) → IsUnexpectedAt symbols p → IsUnexpectedAt symbols q → p ≡ q
place_same symbols p q one two = elim (cases_lt p q) [
  | inl lt ↦ absurd (not_later symbols two.rest p q one lt two.within two.front)
  | inr ge ↦ elim (cases_lt q p) [
    | inl lt ↦ absurd (not_later symbols one.rest q p two lt one.within one.front)
    | inr le ↦ omega arith
  ]
]

start_same : (text : List ℕ) (ending : Option ℕ) (token : Option Token) (a b : ℕ) → IsStart text ending token a → IsStart text ending token b → a ≡ b
start_same text ending None a b one two = one.1 ∙ sym two.1
start_same text ending (Some token) a b one two = one ∙ sym two

ends_there : (text : List ℕ) (ending : Option ℕ) (token : Option Token) (a : ℕ) → token ≡ None → IsStart text ending token a → ending ≡ None
ends_there text ending None a e start = start.0
ends_there text ending (Some token) a e start = absurd (cc e)

bad_not_unexpected : (text : List ℕ) (a b : ℕ) → IsBadTokenAt text a → IsUnexpectedIn text b → ⊥
bad_not_unexpected text a b bad it =
    let same = lexes_same text 0 Name it.tokens bad.tokens it.ending (Some a) it.lexes bad.lexes in
    let symbols = symbols_of text it.tokens in
    let source : IsSource (symbols ++ bad.rest) = subst (λ (ts : List Token). IsSource (symbols_of text ts ++ bad.rest)) (sym same.0) bad.front in
    elim (cases_lt it.place (length symbols)) [
      | inl lt ↦ not_later symbols bad.rest it.place (length symbols) it.unexpected lt (omega arith)
          (subst (λ (ss : List Symbol). IsSource (ss ++ bad.rest)) (sym (take_all (length symbols) symbols (omega arith))) source)
      | inr ge ↦
          let past : length it.tokens ≤ it.place = omega (arith, length-map it.tokens (symbol_of text)) in
          let none = ends_there text it.ending (slice_get it.tokens it.place) b (slice_get_past it.tokens it.place past) it.start in
          let some = same.1 in cc (none, some)
    ]

bad_not_breaks : (text : List ℕ) (a : ℕ) (rule : DtsRefusal) → IsBadTokenAt text a → Breaks text rule → ⊥
bad_not_breaks text a rule bad it = let ends = (lexes_same text 0 Name bad.tokens it.written.tokens (Some a) None bad.lexes it.written.lexes).1 in cc ends

unexpected_not_breaks : (text : List ℕ) (a : ℕ) (rule : DtsRefusal) → IsUnexpectedIn text a → Breaks text rule → ⊥
unexpected_not_breaks text a rule it breaks =
    not_unexpected text it.tokens breaks.written.tokens it.ending it.place (record { lexes = breaks.written.lexes; source = source_of text breaks.syntax breaks.written }) it.lexes it.unexpected

breaks_same : (text : List ℕ) (one other : DtsRefusal) → Breaks text one → Breaks text other → one ≡ other
breaks_same text one other a b = let same = ap broken_rule (written_same text a.syntax b.syntax a.written b.written) in cc (same, a.broken, b.broken)

unexpected_same : (text : List ℕ) (a b : ℕ) → IsUnexpectedIn text a → IsUnexpectedIn text b → a ≡ b
unexpected_same text a b one two =
    let same = lexes_same text 0 Name two.tokens one.tokens two.ending one.ending two.lexes one.lexes in
    let place = place_same (symbols_of text one.tokens) one.place two.place one.unexpected (subst (λ (ts : List Token). IsUnexpectedAt (symbols_of text ts) two.place) same.0 two.unexpected) in
    start_same text one.ending (slice_get one.tokens one.place) a b one.start
    (subst (λ (k : ℕ). IsStart text one.ending (slice_get one.tokens k) b) (sym place)
    (subst (λ (e : Option ℕ). IsStart text e (slice_get one.tokens two.place) b) same.1
    (subst (λ (ts : List Token). IsStart text two.ending (slice_get ts two.place) b) same.0 two.start)))

bad_same : (text : List ℕ) (a b : ℕ) → IsBadTokenAt text a → IsBadTokenAt text b → a ≡ b
bad_same text a b one two = let ends = (lexes_same text 0 Name one.tokens two.tokens (Some a) (Some b) one.lexes two.lexes).1 in cc ends

-- two refusals of a text are one
pub same_refusal : (text : List ℕ) (found refused : DtsRefusal) → IsRefusedAs text found → IsRefusedAs text refused → IsAnswer (Err found) refused
same_refusal text found (refusal.Memory e) one two = tt
same_refusal text (refusal.Memory e) (refusal.BadToken b) one two = tt
same_refusal text (refusal.Memory e) (refusal.Unexpected b) one two = tt
same_refusal text (refusal.Memory e) (refusal.TwiceNamed b) one two = tt
same_refusal text (refusal.Memory e) (refusal.BadPhandle b) one two = tt
same_refusal text (refusal.Memory e) (refusal.NoLabel b) one two = tt
same_refusal text (refusal.BadToken a) (refusal.BadToken b) one two = ap (λ (n : ℕ). refusal.BadToken n) (bad_same text a b one two)
same_refusal text (refusal.BadToken a) (refusal.Unexpected b) one two = absurd (bad_not_unexpected text a b one two)
same_refusal text (refusal.BadToken a) (refusal.TwiceNamed b) one two = absurd (bad_not_breaks text a _ one two)
same_refusal text (refusal.BadToken a) (refusal.BadPhandle b) one two = absurd (bad_not_breaks text a _ one two)
same_refusal text (refusal.BadToken a) (refusal.NoLabel b) one two = absurd (bad_not_breaks text a _ one two)
same_refusal text (refusal.Unexpected a) (refusal.BadToken b) one two = absurd (bad_not_unexpected text b a two one)
same_refusal text (refusal.Unexpected a) (refusal.Unexpected b) one two = ap (λ (n : ℕ). refusal.Unexpected n) (unexpected_same text a b one two)
same_refusal text (refusal.Unexpected a) (refusal.TwiceNamed b) one two = absurd (unexpected_not_breaks text a _ one two)
same_refusal text (refusal.Unexpected a) (refusal.BadPhandle b) one two = absurd (unexpected_not_breaks text a _ one two)
same_refusal text (refusal.Unexpected a) (refusal.NoLabel b) one two = absurd (unexpected_not_breaks text a _ one two)
same_refusal text (refusal.TwiceNamed a) (refusal.BadToken b) one two = absurd (bad_not_breaks text b _ two one)
same_refusal text (refusal.TwiceNamed a) (refusal.Unexpected b) one two = absurd (unexpected_not_breaks text b _ two one)
same_refusal text (refusal.TwiceNamed a) (refusal.TwiceNamed b) one two = breaks_same text _ _ one two
same_refusal text (refusal.TwiceNamed a) (refusal.BadPhandle b) one two = breaks_same text _ _ one two
same_refusal text (refusal.TwiceNamed a) (refusal.NoLabel b) one two = breaks_same text _ _ one two
same_refusal text (refusal.BadPhandle a) (refusal.BadToken b) one two = absurd (bad_not_breaks text b _ two one)
same_refusal text (refusal.BadPhandle a) (refusal.Unexpected b) one two = absurd (unexpected_not_breaks text b _ two one)
same_refusal text (refusal.BadPhandle a) (refusal.TwiceNamed b) one two = breaks_same text _ _ one two
same_refusal text (refusal.BadPhandle a) (refusal.BadPhandle b) one two = breaks_same text _ _ one two
same_refusal text (refusal.BadPhandle a) (refusal.NoLabel b) one two = breaks_same text _ _ one two
same_refusal text (refusal.NoLabel a) (refusal.BadToken b) one two = absurd (bad_not_breaks text b _ two one)
same_refusal text (refusal.NoLabel a) (refusal.Unexpected b) one two = absurd (unexpected_not_breaks text b _ two one)
same_refusal text (refusal.NoLabel a) (refusal.TwiceNamed b) one two = breaks_same text _ _ one two
same_refusal text (refusal.NoLabel a) (refusal.BadPhandle b) one two = breaks_same text _ _ one two
same_refusal text (refusal.NoLabel a) (refusal.NoLabel b) one two = breaks_same text _ _ one two

pub source_answer : (text : List ℕ) (tree : Node) (refused : DtsRefusal) → IsSourceOf text tree → IsRefusedAs text refused → IsAnswer (Ok tree) refused
source_answer text tree (refusal.BadToken offset) is it = not_refused text tree (refusal.BadToken offset) is it
source_answer text tree (refusal.Unexpected offset) is it = not_refused text tree (refusal.Unexpected offset) is it
source_answer text tree (refusal.TwiceNamed offset) is it = not_refused text tree (refusal.TwiceNamed offset) is it
source_answer text tree (refusal.BadPhandle offset) is it = not_refused text tree (refusal.BadPhandle offset) is it
source_answer text tree (refusal.NoLabel offset) is it = not_refused text tree (refusal.NoLabel offset) is it
source_answer text tree (refusal.Memory e) is it = tt

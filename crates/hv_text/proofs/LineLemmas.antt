-- How a text is parted into lines.
use Rattle.std.proofs.Common.{◌≡◌, ◌≢◌, ℕ, suc, ◌+◌, ◌-◌, ◌<◌, ◌≤◌, Bool, false, eqb, cond, List, [], ◌∷◌, ◌++◌, length, take, drop, get_or, refl, sym, ap, subst, ◌∙◌, arith, take_all, drop-drop, append_assoc, take-append-drop, length-drop, drop-cons, ne_eqb, eq-eqb}
use Rattle.std.specs.List.{slice_split, onto_first, position_or_len}
use Rattle.std.specs.Str.Lines.{lines_of_parts, strip_carriage_return}
use Rattle.std.proofs.lemmas.List.{append-nil, drop_all}
use Rattle.std.proofs.Math.Seq.{take-append_seam}
use Rattle.std.proofs.lemmas.List.Splits.{slice_split-cons_yes, slice_split-cons_no, length-slice_split}
use Rattle.std.proofs.lemmas.Grind.{common_steps}
use Rattle.hv_text.specs.Front.{IsFree, Stops}
use Rattle.hv_text.specs.Lines.{script_lines, after_line_feed, IsLineAt}

abbrev is_line_feed : ℕ → Bool
is_line_feed b = eqb b 10

-- a text without line feeds is one piece
one_piece : (text : List ℕ) → IsFree 10 text → slice_split is_line_feed text ≡ text ∷ []
one_piece [] free = refl
one_piece (b ∷ text) free = slice_split-cons_no is_line_feed b text (ne_eqb b 10 free.0) ∙ ap (onto_first b) (one_piece text free.1)

-- the first piece ends at the first line feed
first_piece : (piece rest : List ℕ) → IsFree 10 piece → slice_split is_line_feed (piece ++ 10 ∷ rest) ≡ piece ∷ slice_split is_line_feed rest
first_piece [] rest free = slice_split-cons_yes is_line_feed 10 rest refl
first_piece (b ∷ piece) rest free = slice_split-cons_no is_line_feed b (piece ++ 10 ∷ rest) (ne_eqb b 10 free.0) ∙ ap (onto_first b) (first_piece piece rest free.1)

line_of_piece : (piece : List ℕ) (pieces : List (List ℕ)) → 0 < length pieces → lines_of_parts (piece ∷ pieces) ≡ strip_carriage_return piece ∷ lines_of_parts pieces
line_of_piece piece [] some = absurd (omega arith)
line_of_piece piece (next ∷ more) some = refl

-- a text without line feeds that isn't empty is one line
pub one_line : (text : List ℕ) → 0 < length text → IsFree 10 text → script_lines text ≡ text ∷ []
one_line text some free = ap lines_of_parts (one_piece text free) ∙ ap (λ (b : Bool). cond b [] (text ∷ [])) (ne_eqb (length text) 0 (λ none. omega arith))

-- the first line ends at the first line feed
pub first_line : (piece rest : List ℕ) → IsFree 10 piece → script_lines (piece ++ 10 ∷ rest) ≡ strip_carriage_return piece ∷ script_lines rest
first_line piece rest free =
    ap lines_of_parts (first_piece piece rest free) ∙ line_of_piece piece (slice_split is_line_feed rest) (omega (arith, length-slice_split is_line_feed rest))

feed_at : (piece rest : List ℕ) → IsFree 10 piece → position_or_len is_line_feed (piece ++ 10 ∷ rest) ≡ length piece
feed_at [] rest free = refl
feed_at (b ∷ piece) rest free =
    let other : eqb b 10 ≡ false = ne_eqb b 10 free.0 in
    rw other (omega (arith, feed_at piece rest free.1))

no_feed : (text : List ℕ) → IsFree 10 text → position_or_len is_line_feed text ≡ length text
no_feed [] free = refl
no_feed (b ∷ text) free =
    let other : eqb b 10 ≡ false = ne_eqb b 10 free.0 in
    rw other (omega (arith, no_feed text free.1))

behind_feed : (piece rest : List ℕ) → drop (length piece + 1) (piece ++ 10 ∷ rest) ≡ rest
behind_feed [] rest = refl
behind_feed (b ∷ piece) rest =
    let more : suc (length piece) + 1 ≡ suc (length piece + 1) = omega arith in
    ap (λ (n : ℕ). drop n (b ∷ (piece ++ 10 ∷ rest))) more ∙ behind_feed piece rest

pub after_piece : (piece rest : List ℕ) → IsFree 10 piece → after_line_feed (piece ++ 10 ∷ rest) ≡ rest
after_piece piece rest free =
    ap (λ (n : ℕ). drop (n + 1) (piece ++ 10 ∷ rest)) (feed_at piece rest free) ∙ behind_feed piece rest

pub after_last : (text : List ℕ) → IsFree 10 text → after_line_feed text ≡ []
after_last text free = ap (λ (n : ℕ). drop (n + 1) text) (no_feed text free) ∙ drop_all (length text + 1) text (omega arith)

-- a list with this last element
ends_with : (text : List ℕ) (b : ℕ) → 0 < length text → get_or text (length text - 1) 0 ≡ b → (front : List ℕ) × (text ≡ front ++ b ∷ [])
ends_with [] b some is = absurd (omega arith)
ends_with (x ∷ []) b some is = ([], ap (λ (y : ℕ). y ∷ []) is)
ends_with (x ∷ y ∷ text) b some is =
    let at : length (x ∷ y ∷ text) - 1 ≡ suc (length (y ∷ text) - 1) = omega arith in
    let more = ends_with (y ∷ text) b (omega arith) (ap (λ (n : ℕ). get_or (x ∷ y ∷ text) n 0) (sym at) ∙ is) in
    (x ∷ more.0, ap (λ (t : List ℕ). x ∷ t) more.1)

-- a piece with a carriage return at its end loses it
pub stripped : (piece line : List ℕ) → piece ≡ line ++ 13 ∷ [] → strip_carriage_return piece ≡ line
stripped piece line is =
    let last : get_or piece (length piece - 1) 0 ≡ 13 = grind (arith, common_steps) in
    let before : take (length piece - 1) piece ≡ line = grind (arith, common_steps) in
    ap (λ (b : Bool). cond b (take (length piece - 1) piece) piece) (eq-eqb _ 13 last) ∙ before

-- and another keeps its bytes
pub kept : (piece : List ℕ) → ((line : List ℕ) → piece ≢ line ++ 13 ∷ []) → strip_carriage_return piece ≡ piece
kept [] none = refl
kept (b ∷ piece) none =
    let other : get_or (b ∷ piece) (length (b ∷ piece) - 1) 0 ≢ 13 = λ is. let e = ends_with (b ∷ piece) 13 (omega arith) is in none e.0 e.1 in
    ap (λ (t : Bool). cond t (take (length (b ∷ piece) - 1) (b ∷ piece)) (b ∷ piece)) (ne_eqb _ 13 other)

-- the last line, where no line feed follows
pub last_line_at : (text : List ℕ) (from : ℕ) → from ≤ length text → 0 < length (drop from text) → IsFree 10 (drop from text) → IsLineAt text from from (length text) (length text)
last_line_at text from within some free =
    let size : length (drop from text) ≡ length text - from = length-drop from text in
    let nothing : drop (length text) text ≡ [] = drop_all (length text) text (omega arith) in
    let whole : take (length text - from) (drop from text) ≡ drop from text = take_all (length text - from) (drop from text) (omega arith) in
    record {
      starts = refl;
      ordered = within;
      ends = omega arith;
      advances = omega arith;
      within = omega arith;
      next_line = nothing ∙ sym (after_last (drop from text) free);
      lines = one_line (drop from text) some free ∙ (λ i. sym whole i ∷ script_lines (sym nothing i));
    }

-- a line that a line feed ends
pub line_at_feed : (text : List ℕ) (from len : ℕ) (piece rest line : List ℕ) → from ≤ length text → drop from text ≡ piece ++ 10 ∷ rest → length piece ≡ len → IsFree 10 piece → strip_carriage_return piece ≡ line → (more : List ℕ) → piece ≡ line ++ more
    → IsLineAt text from from (from + length line) (from + len + 1)
line_at_feed text from len piece rest line within is size free strip more parts =
    let whole : length text - from ≡ length (piece ++ 10 ∷ rest) = sym (length-drop from text) ∙ ap length is in
    let sizes : length (piece ++ 10 ∷ rest) ≡ len + suc (length rest) = grind (arith, common_steps) in
    let shorter : len ≡ length line + length more = grind (arith, common_steps) in
    let behind : drop (from + len + 1) text ≡ rest =
    let at : from + len + 1 ≡ from + (length piece + 1) = omega arith in
    ap (λ (n : ℕ). drop n text) at ∙ sym (drop-drop (length piece + 1) from text) ∙ ap (λ (t : List ℕ). drop (length piece + 1) t) is ∙ behind_feed piece rest in
    let shown : take (from + length line - from) (drop from text) ≡ line =
    let at : from + length line - from ≡ length line = omega arith in
    ap (λ (n : ℕ). take n (drop from text)) at ∙ ap (λ (t : List ℕ). take (length line) t) (is ∙ ap (λ (t : List ℕ). t ++ 10 ∷ rest) parts ∙ append_assoc line more (10 ∷ rest)) ∙ take-append_seam line (more ++ 10 ∷ rest) in
    record {
      starts = refl;
      ordered = omega arith;
      ends = omega arith;
      advances = omega arith;
      within = omega arith;
      next_line = behind ∙ sym (ap after_line_feed is ∙ after_piece piece rest free);
      lines = ap script_lines is ∙ first_line piece rest free ∙ (λ i. (strip ∙ sym shown) i ∷ script_lines (sym behind i));
    }

-- a text at a line feed
pub cut_at_feed : (text : List ℕ) (len : ℕ) → len < length text → Stops 10 (drop len text) → text ≡ take len text ++ 10 ∷ drop (suc len) text
cut_at_feed text len within stops =
    let cut : drop len text ≡ get_or text len 0 ∷ drop (suc len) text = drop-cons text len 0 within in
    let is : get_or text len 0 ≡ 10 = subst (Stops 10) cut stops in
    sym (take-append-drop len text) ∙ ap (λ (t : List ℕ). take len text ++ t) (cut ∙ ap (λ (b : ℕ). b ∷ drop (suc len) text) is)

pub stripped_line_at : (text : List ℕ) (from len : ℕ) (line : List ℕ) → from ≤ length text → len < length (drop from text) → IsFree 10 (take len (drop from text)) → Stops 10 (drop len (drop from text))
    → take len (drop from text) ≡ line ++ 13 ∷ [] → IsLineAt text from from (from + length line) (from + len + 1)
stripped_line_at text from len line within before free stops is =
    let size : length (take len (drop from text)) ≡ len = grind (arith, common_steps) in
    line_at_feed text from len (take len (drop from text)) (drop (suc len) (drop from text)) line within (cut_at_feed (drop from text) len before stops) size free (stripped (take len (drop from text)) line is) (13 ∷ []) is

pub kept_line_at : (text : List ℕ) (from len : ℕ) → from ≤ length text → len < length (drop from text) → IsFree 10 (take len (drop from text)) → Stops 10 (drop len (drop from text))
    → ((line : List ℕ) → take len (drop from text) ≢ line ++ 13 ∷ []) → IsLineAt text from from (from + len) (from + len + 1)
kept_line_at text from len within before free stops none =
    let size : length (take len (drop from text)) ≡ len = grind (arith, common_steps) in
    let here = line_at_feed text from len (take len (drop from text)) (drop (suc len) (drop from text)) (take len (drop from text)) within (cut_at_feed (drop from text) len before stops) size free (kept (take len (drop from text)) none) [] (sym (append-nil (take len (drop from text)))) in
    subst (λ (n : ℕ). IsLineAt text from from (from + n) (from + len + 1)) size here

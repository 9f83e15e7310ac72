-- How a text is parted into words.
use Rattle.std.proofs.Common.{◌≡◌, ℕ, zero, suc, ◌<◌, ◌≤◌, true, false, not, List, [], ◌∷◌, ◌++◌, length, take, drop, refl, sym, ap, ◌∙◌, arith, filter, take-append-drop, eqb, ne_eqb, eq-eqb}
use Rattle.std.specs.List.{slice_split, onto_first, prefix_len}
use Rattle.std.proofs.lemmas.List.Splits.{slice_split-cons_yes, slice_split-cons_no}
use Rattle.hv_text.specs.Front.{IsFree, Stops}
use Rattle.hv_asm.specs.Line.{is_blank, is_empty, words}
use Rattle.hv_asm.specs.Reading.{StartsWord, HasNoBlanks, StopsWord}

-- the pieces that aren't empty
abbrev some_pieces : List (List ℕ) → List (List ℕ)
some_pieces pieces = filter (λ w. not (is_empty w)) pieces

-- the pieces behind a first piece
abbrev pieces_behind : List ℕ → List (List ℕ)
pieces_behind [] = []
pieces_behind (b ∷ bs) = slice_split is_blank bs

-- a blank in front parts no words
pub words-blank : (b : ℕ) (bs : List ℕ) → is_blank b ≡ true → words (b ∷ bs) ≡ words bs
words-blank b bs is = ap some_pieces (slice_split-cons_yes is_blank b bs is)

-- a front without blanks is the first piece
first_piece : (word rest : List ℕ) → HasNoBlanks word → StopsWord rest → slice_split is_blank (word ++ rest) ≡ word ∷ pieces_behind rest
first_piece [] [] free stops = refl
first_piece [] (b ∷ bs) free stops = slice_split-cons_yes is_blank b bs stops
first_piece (b ∷ word) rest free stops =
    slice_split-cons_no is_blank b (word ++ rest) free.0 ∙ ap (onto_first b) (first_piece word rest free.1 stops)

-- what follows a word has its words behind the piece of the blank
words_behind : (rest : List ℕ) → StopsWord rest → words rest ≡ some_pieces (pieces_behind rest)
words_behind [] stops = refl
words_behind (b ∷ bs) stops = words-blank b bs stops

-- a front without blanks that isn't empty is the first word
pub first_word : (word rest : List ℕ) → 0 < length word → HasNoBlanks word → StopsWord rest → words (word ++ rest) ≡ word ∷ words rest
first_word [] rest some free stops = absurd (omega arith)
first_word (b ∷ word) rest some free stops =
    ap some_pieces (first_piece (b ∷ word) rest free stops) ∙ ap (λ (ws : List (List ℕ)). (b ∷ word) ∷ ws) (sym (words_behind rest stops))

-- a text that starts a word has its front before the first blank as its first word
pub word_in_front : (text : List ℕ) (len : ℕ) → StartsWord text → 0 < length text → HasNoBlanks (take len text) → StopsWord (drop len text) → words text ≡ take len text ∷ words (drop len text)
word_in_front [] len start some free stops = absurd (omega arith)
word_in_front (b ∷ bs) zero start some free stops = absurd (cc (start, stops))
word_in_front (b ∷ bs) (suc len) start some free stops =
    ap words (sym (take-append-drop (suc len) (b ∷ bs))) ∙ first_word (take (suc len) (b ∷ bs)) (drop (suc len) (b ∷ bs)) (omega arith) free stops

-- the front before the first comment
pub front_is : (text : List ℕ) (n : ℕ) → n ≤ length text → IsFree 35 (take n text) → Stops 35 (drop n text) → prefix_len (λ b. not (eqb b 35)) text ≡ n
front_is [] n within free stops = omega arith
front_is (b ∷ bs) zero within free stops = rw (eq-eqb b 35 stops) refl
front_is (b ∷ bs) (suc n) within free stops =
    let here : eqb b 35 ≡ false = ne_eqb b 35 free.0 in
    let more : prefix_len (λ b. not (eqb b 35)) bs ≡ n = front_is bs n (omega arith) free.1 stops in
    rw here (omega (arith, more))

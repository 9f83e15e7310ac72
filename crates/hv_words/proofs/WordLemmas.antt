-- How a line is parted into words.
use Rattle.std.proofs.Common.{◌≡◌, ◌≢◌, ℕ, zero, suc, ◌<◌, eqb, false, not, List, [], ◌∷◌, ◌++◌, length, take, drop, get_or, refl, sym, ap, subst, ◌∙◌, arith, ne_eqb, filter, take-append-drop, drop-cons}
use Rattle.hv_text.specs.Front.{IsFree, Stops}
use Rattle.hv_words.specs.Words.{is_empty, onto_first, pieces, words, StartsWord}

-- the pieces behind a first piece
abbrev pieces_behind : List ℕ → List (List ℕ)
pieces_behind [] = []
pieces_behind (b ∷ bs) = pieces bs

-- a space in front parts no words
pub words-space : (b : ℕ) (bs : List ℕ) → b ≡ 32 → words (b ∷ bs) ≡ words bs
words-space b bs is = rw is refl

-- a front without spaces is the first piece
first_piece : (word rest : List ℕ) → IsFree 32 word → Stops 32 rest → pieces (word ++ rest) ≡ word ∷ pieces_behind rest
first_piece [] [] free stops = refl
first_piece [] (b ∷ bs) free stops = rw stops refl
first_piece (b ∷ word) rest free stops =
    let other : eqb b 32 ≡ false = ne_eqb b 32 free.0 in
    rw other (ap (onto_first b) (first_piece word rest free.1 stops))

-- what follows a word has its words behind the piece of the space
words_behind : (rest : List ℕ) → Stops 32 rest → words rest ≡ filter (λ p. not (is_empty p)) (pieces_behind rest)
words_behind [] stops = refl
words_behind (b ∷ bs) stops = rw stops refl

-- a front without spaces that isn't empty is the first word
pub first_word : (b : ℕ) (word rest : List ℕ) → IsFree 32 (b ∷ word) → Stops 32 rest → words ((b ∷ word) ++ rest) ≡ (b ∷ word) ∷ words rest
first_word b word rest free stops =
    ap (λ (ps : List (List ℕ)). filter (λ p. not (is_empty p)) ps) (first_piece (b ∷ word) rest free stops) ∙ ap (λ (ws : List (List ℕ)). (b ∷ word) ∷ ws) (sym (words_behind rest stops))

-- a text that starts a word has its front before the first space as its first word
pub word_in_front : (text : List ℕ) (len : ℕ) → StartsWord text → 0 < length text → IsFree 32 (take len text) → Stops 32 (drop len text) → words text ≡ take len text ∷ words (drop len text)
word_in_front [] len start some free stops = absurd (omega arith)
word_in_front (b ∷ bs) zero start some free stops = absurd (start stops)
word_in_front (b ∷ bs) (suc len) start some free stops =
    ap (λ (t : List ℕ). words (b ∷ t)) (sym (take-append-drop len bs)) ∙ first_word b (take len bs) (drop len bs) free stops

-- the words behind one more space
pub words_more : (text : List ℕ) (at : ℕ) → at < length text → get_or text at 0 ≡ 32 → words (drop at text) ≡ words (drop (suc at) text)
words_more text at lt is = ap words (drop-cons text at 0 lt) ∙ words-space (get_or text at 0) (drop (suc at) text) is

pub starts_here : (text : List ℕ) (at : ℕ) → at < length text → get_or text at 0 ≢ 32 → StartsWord (drop at text)
starts_here text at lt other = subst StartsWord (sym (drop-cons text at 0 lt)) other

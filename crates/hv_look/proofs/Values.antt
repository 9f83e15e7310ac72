-- Values and their words.
use Rattle.std.proofs.Common.{◌≡◌, ℕ, ◌<◌, suc, zero, List, [], ◌∷◌, ◌++◌, length, get_or, refl, sym, ap, subst, ◌∙◌, arith, append_assoc}
use Rattle.std.specs.List.{join_with_byte}
use Rattle.hv_data.specs.Text.{address_text}
use Rattle.hv_data.specs.Written.{IsNumber}
use Rattle.hv_data.specs.Reading.{AreWordsOf, IsWordOf}
use Rattle.hv_data.specs.Data.{Address, HaveNoSpace, spaced}
use Rattle.hv_data.proofs.Numerals.{same_address}
use Rattle.hv_data.proofs.Pairs.{all_push}
use Rattle.hv_data.proofs.DataLemmas.{data_free}
use Rattle.hv_data.proofs.Splits.{joined_spaced}
use Rattle.hv_look.specs.Look.{values_words, AreNumbers}

-- values with the same words are the same
pub same_values : (xs ys : List ℕ) → AreNumbers xs → AreNumbers ys → values_words xs ≡ values_words ys → xs ≡ ys
same_values [] [] h k e = refl
same_values [] (y ∷ ys) h k e = absurd (cc e)
same_values (x ∷ xs) [] h k e = absurd (cc e)
same_values (x ∷ xs) (y ∷ ys) h k e =
    let heads : address_text x ≡ address_text y = cc e in
    let tails : values_words xs ≡ values_words ys = cc e in
    cc (same_address x y h.0 k.0 heads, same_values xs ys h.1 k.1 tails)

pub values_free : (values : List ℕ) → AreNumbers values → HaveNoSpace (values_words values)
values_free [] h = tt
values_free (v ∷ values) h = ((data_free (Address v ∷ []) (h.0, tt)).0, values_free values h.1)

-- each word of values is one value's
pub word_at : (words : List (List ℕ)) (values : List ℕ) (i : ℕ) (d : List ℕ) → AreNumbers values → words ≡ values_words values → i < length words → (v : ℕ) × IsWordOf IsNumber address_text (get_or words i d) v
word_at [] values i d h e lt = absurd (omega arith)
word_at (w ∷ words) [] i d h e lt = absurd (cc e)
word_at (w ∷ words) (v ∷ values) zero d h e lt = (v, (h.0, cc e))
word_at (w ∷ words) (v ∷ values) (suc i) d h e lt =
    let tails : words ≡ values_words values = cc e in
    word_at words values i d h.1 tails (omega arith)

pub none_where_none : (words : List (List ℕ)) (i : ℕ) (word : List ℕ) → i < length words → word ≡ get_or words i word → ((v : ℕ) → IsWordOf IsNumber address_text word v → ⊥) → (values : List ℕ) → AreWordsOf AreNumbers values_words words values → ⊥
none_where_none words i word lt is none values h =
    let found = word_at words values i word h.0 h.1 lt in
    none found.0 (subst (λ (w : List ℕ). IsWordOf IsNumber address_text w found.0) (sym is) found.1)

pub numbers_push : (values : List ℕ) (v : ℕ) → AreNumbers values → IsNumber v → AreNumbers (values ++ v ∷ [])
numbers_push = all_push IsNumber

pub words_push : (values : List ℕ) (v : ℕ) → values_words (values ++ v ∷ []) ≡ values_words values ++ address_text v ∷ []
words_push [] v = refl
words_push (x ∷ values) v = ap (λ (ws : List (List ℕ)). address_text x ∷ ws) (words_push values v)

-- where a word is no value's, the words are those of no values
pub none_at : (words : List (List ℕ)) (i : ℕ) (word shown : List ℕ) → i < length words → word ≡ get_or words i word → shown ≡ word → ((v : ℕ) → IsWordOf IsNumber address_text shown v → ⊥) → (values : List ℕ) → AreWordsOf AreNumbers values_words words values → ⊥
none_at words i word shown lt is same none values h =
    none_where_none words i word lt is (λ v there. none v (subst (λ (w : List ℕ). IsWordOf IsNumber address_text w v) (sym same) there)) values h

-- three words and values
pub shown_joined : (s p n : List ℕ) (values : List ℕ) → (((((s ++ 32 ∷ []) ++ p) ++ 32 ∷ []) ++ n) ++ spaced (values_words values)) ≡ join_with_byte 32 (s ∷ p ∷ n ∷ values_words values)
shown_joined s p n values = sym (ap (λ (t : List ℕ). s ++ (32 ∷ (p ++ (32 ∷ t)))) (joined_spaced n (values_words values)) ∙ simp append_assoc)

-- Items one after the other.
use Rattle.std.proofs.Common.{◌≡◌, ◌≢◌, ℕ, ◌-◌, ◌≤◌, Some, None, List, [], ◌∷◌, ◌++◌, length, drop, refl, sym, ap, subst, ◌∙◌, arith, inr, append_assoc, length-append}
use Rattle.std.specs.Prelude.{true, false, not, eqb}
use Rattle.std.specs.Cmp.Lexicographic.{pointwise}
use Rattle.std.proofs.lemmas.Bool.{not-true, not-false, both_ways}
use Rattle.std.proofs.lemmas.Slice.Eq.{bytes_eq-Decides}
use Rattle.std.proofs.lemmas.List.{append-nil}
use Rattle.hv_bundle.specs.declared.file.File.{File}
use Rattle.hv_bundle.specs.Reading.{IsItemAt}
use Rattle.hv_bundle.specs.Bundle.{IsFile, item_text, items_text, FitsAfter, AreFitting, BeginsWithItems, IsBundle, StopsAt, IsBadAt, magic, ending}
use Rattle.hv_bundle.proofs.Items.{first_item, item_text-append}

-- where the files are split
pub fits_at : (earlier files : List File) (file : File) (more : List File) → AreFitting earlier (files ++ file ∷ more) → IsFile file × FitsAfter (earlier ++ files) file.path
fits_at earlier [] file more h = (h.0, subst (λ (fs : List File). FitsAfter fs file.path) (sym (append-nil earlier)) h.1)
fits_at earlier (f ∷ files) file more h =
    let rest = fits_at (earlier ++ f ∷ []) files file more h.2 in
    (rest.0, subst (λ (fs : List File). FitsAfter fs file.path) (append_assoc earlier (f ∷ []) files) rest.1)

fitting_push : (earlier files : List File) (file : File) → AreFitting earlier files → IsFile file → FitsAfter (earlier ++ files) file.path → AreFitting earlier (files ++ file ∷ [])
fitting_push earlier [] file h is fits = (is, subst (λ (fs : List File). FitsAfter fs file.path) (append-nil earlier) fits, tt)
fitting_push earlier (f ∷ files) file h is fits =
    (h.0, h.1, fitting_push (earlier ++ f ∷ []) files file h.2 is (subst (λ (fs : List File). FitsAfter fs file.path) (sym (append_assoc earlier (f ∷ []) files)) fits))

items_push : (files : List File) (file : File) (rest : List ℕ) → items_text (files ++ file ∷ []) ++ rest ≡ items_text files ++ (item_text file ++ rest)
items_push [] file rest = ap (λ (t : List ℕ). t ++ rest) (append-nil (item_text file))
items_push (f ∷ files) file rest =
    append_assoc (item_text f) (items_text (files ++ file ∷ [])) rest ∙ ap (λ (t : List ℕ). item_text f ++ t) (items_push files file rest) ∙ sym (append_assoc (item_text f) (items_text files) (item_text file ++ rest))

-- one more item
pub begins_more : (text : List ℕ) (files : List File) (rest : List ℕ) (file : File) (behind : List ℕ) → BeginsWithItems text files rest → IsFile file → FitsAfter files file.path → rest ≡ item_text file ++ behind → BeginsWithItems text (files ++ file ∷ []) behind
begins_more text files rest file behind begins is fits e = record {
  fitting = fitting_push [] files file begins.fitting is fits;
  parts = begins.parts ∙ ap (λ (t : List ℕ). magic ++ (items_text files ++ t)) e ∙ ap (λ (t : List ℕ). magic ++ t) (sym (items_push files file behind));
}

-- of two lists of items in one text, one begins with the other
pub data GoesOn (one other : List File) (x y : List ℕ) : Type 0 where
  further : (more : List File) → other ≡ one ++ more → x ≡ items_text more ++ y → GoesOn one other x y
  shorter : (file : File) (more : List File) → one ≡ other ++ file ∷ more → y ≡ items_text (file ∷ more) ++ x → GoesOn one other x y

goes_on_more : (f : File) (one other : List File) (x y : List ℕ) → GoesOn one other x y → GoesOn (f ∷ one) (f ∷ other) x y
goes_on_more f one other x y (further more e k) = further more (ap (λ (fs : List File). f ∷ fs) e) k
goes_on_more f one other x y (shorter file more e k) = shorter file more (ap (λ (fs : List File). f ∷ fs) e) k

pub one_beginning : (e d : List File) (one other : List File) (x y : List ℕ) → AreFitting e one → AreFitting d other → items_text one ++ x ≡ items_text other ++ y → GoesOn one other x y
one_beginning e d [] other x y h k is = further other refl is
one_beginning e d (f ∷ one) [] x y h k is = shorter f one refl (sym is)
one_beginning e d (f ∷ one) (g ∷ other) x y h k is =
    let both = first_item f g (items_text one ++ x) (items_text other ++ y) h.0 k.0 (sym (append_assoc (item_text f) (items_text one) x) ∙ is ∙ append_assoc (item_text g) (items_text other) y) in
    let rest = one_beginning (e ++ f ∷ []) (d ++ g ∷ []) one other x y h.2 k.2 both.1 in
    subst (λ (n : File). GoesOn (f ∷ one) (n ∷ other) x y) both.0 (goes_on_more f one other x y rest)

pub beginnings_agree : (text : List ℕ) (one other : List File) (x y : List ℕ) → BeginsWithItems text one x → BeginsWithItems text other y → GoesOn one other x y
beginnings_agree text one other x y p q =
    let whole : magic ++ (items_text one ++ x) ≡ magic ++ (items_text other ++ y) = sym p.parts ∙ q.parts in
    one_beginning [] [] one other x y p.fitting q.fitting (cc whole)

-- the last line is no item
pub not_ending : (file : File) (more : List File) (rest : List ℕ) → ending ≡ items_text (file ∷ more) ++ rest → ⊥
not_ending file more rest e =
    let begins = e ∙ append_assoc (item_text file) (items_text more) rest ∙ item_text-append file (items_text more ++ rest) in
    cc begins

only_none : (files others more : List File) → others ≡ files ++ more → ending ≡ items_text more ++ ending → files ≡ others
only_none files others [] e k = sym (e ∙ append-nil files)
only_none files others (f ∷ more) e k = absurd (not_ending f more ending k)

-- at the last line the files are those of the bundle
pub ended : (text : List ℕ) (files others : List File) → BeginsWithItems text files ending → IsBundle text others → files ≡ others
ended text files others p q = elim (beginnings_agree text files others ending ending p q) [
  | further more e k ↦ only_none files others more e k
  | shorter file more e k ↦ absurd (not_ending file more ending k)
]

-- no file that fits has its item at the beginning of the rest
abbrev pub NoneFits : List File → List ℕ → Type 0
NoneFits files rest = (file : File) (behind : List ℕ) → IsFile file → FitsAfter files file.path → rest ≢ item_text file ++ behind

none_further : (files : List File) (rest : List ℕ) (others : List File) (file : File) (more : List File) (behind : List ℕ) → NoneFits files rest → AreFitting [] others → others ≡ files ++ file ∷ more → rest ≡ items_text (file ∷ more) ++ behind → ⊥
none_further files rest others file more behind none h e k =
    let there = fits_at [] files file more (subst (λ (fs : List File). AreFitting [] fs) e h) in
    none file (items_text more ++ behind) there.0 there.1 (k ∙ append_assoc (item_text file) (items_text more) behind)

no_bundle : (text : List ℕ) (files : List File) (rest : List ℕ) (others : List File) → BeginsWithItems text files rest → NoneFits files rest → rest ≢ ending → IsBundle text others → GoesOn files others rest ending → ⊥
no_bundle text files rest others p none apart q (further [] e k) = apart k
no_bundle text files rest others p none apart q (further (f ∷ more) e k) = none_further files rest others f more ending none q.fitting e k
no_bundle text files rest others p none apart q (shorter f more e k) = not_ending f more rest k

pub is_no_bundle : (text : List ℕ) (files : List File) (rest : List ℕ) → BeginsWithItems text files rest → NoneFits files rest → rest ≢ ending → (others : List File) → IsBundle text others → ⊥
is_no_bundle text files rest p none apart others q = no_bundle text files rest others p none apart q (beginnings_agree text files others rest ending p q)

no_longer : (files : List File) (rest : List ℕ) (others : List File) (behind : List ℕ) → NoneFits files rest → AreFitting [] others → GoesOn files others rest behind → length rest ≤ length behind
no_longer files rest others behind none h (further [] e k) = omega (arith, ap length k)
no_longer files rest others behind none h (further (f ∷ more) e k) = absurd (none_further files rest others f more behind none h e k)
no_longer files rest others behind none h (shorter f more e k) = omega (arith, ap length k, length-append (items_text (f ∷ more)) rest)

pub stops : (text : List ℕ) (files : List File) (rest : List ℕ) → BeginsWithItems text files rest → NoneFits files rest → rest ≢ ending → StopsAt text (length text - length rest)
stops text files rest p none apart = record {
  files = files;
  rest = rest;
  begins = p;
  ends = omega (arith, ap length p.parts, length-append magic (items_text files ++ rest), length-append (items_text files) rest);
  longest = λ others behind q. no_longer files rest others behind none q.fitting (beginnings_agree text files others rest behind p q);
  not_end = apart;
}

pub none_from_item : (files : List File) (rest : List ℕ) → IsItemAt rest None → NoneFits files rest
none_from_item files rest none file behind is _ e = none file behind is e

pub none_from_fit : (files : List File) (rest : List ℕ) (file : File) (size : ℕ) → IsItemAt rest (Some (file, size)) → (FitsAfter files file.path → ⊥) → NoneFits files rest
none_from_fit files rest file size item apart other behind is fits e =
    let both = first_item other file behind (drop size rest) is item.0 (sym e ∙ item.3) in
    apart (subst (λ (f : File). FitsAfter files f.path) both.0 fits)

-- what the test for the last line says
pub not_the_end : (rest last : List ℕ) → last ≡ ending → true ≡ not (pointwise eqb rest last) → rest ≢ ending
not_the_end rest last is test e = both_ways _ (not-true _ (sym test)) ((bytes_eq-Decides rest last).1 (e ∙ sym is))

pub the_end : (rest last : List ℕ) → last ≡ ending → false ≡ not (pointwise eqb rest last) → rest ≡ ending
the_end rest last is test = (bytes_eq-Decides rest last).0 (not-false _ (sym test)) ∙ is

-- a text whose items stop before the last line is bad there
pub bad_where_items_stop : (text : List ℕ) (files : List File) (rest : List ℕ) → BeginsWithItems text files rest → NoneFits files rest → rest ≢ ending → IsBadAt text (length text - length rest)
bad_where_items_stop text files rest begins none apart = record {
  no_bundle = is_no_bundle text files rest begins none apart;
  stop = inr (stops text files rest begins none apart);
}

-- a text is the bundle of one list of files
pub one_reading : (text : List ℕ) (files others : List File) → IsBundle text files → IsBundle text others → files ≡ others
one_reading text files others is there = ended text files others is there

-- what a bundle is followed by, in a longer text that is one too
longer_begins : (text more : List ℕ) (files : List File) → IsBundle text files → BeginsWithItems (text ++ more) files (ending ++ more)
longer_begins text more files is = record {
  fitting = is.fitting;
  parts = ap (λ (t : List ℕ). t ++ more) is.parts ∙ append_assoc magic (items_text files ++ ending) more ∙ ap (λ (t : List ℕ). magic ++ t) (append_assoc (items_text files) ending more);
}

-- a last line with bytes behind it is no item
not_longer_ending : (file : File) (files : List File) (more rest : List ℕ) → ending ++ more ≡ items_text (file ∷ files) ++ rest → ⊥
not_longer_ending file files more rest e =
    let begins = e ∙ append_assoc (item_text file) (items_text files) rest ∙ item_text-append file (items_text files ++ rest) in
    cc begins

ends_there : (files others : List File) (more : List ℕ) → GoesOn files others (ending ++ more) ending → more ≡ []
ends_there files others more (further [] e k) = cc k
ends_there files others more (further (f ∷ fs) e k) = absurd (not_longer_ending f fs more ending k)
ends_there files others more (shorter f fs e k) = absurd (not_ending f fs (ending ++ more) k)

-- no bundle is the beginning of a longer one
pub prefix_free : (text more : List ℕ) (files others : List File) → IsBundle text files → IsBundle (text ++ more) others → more ≡ []
prefix_free text more files others is longer =
    ends_there files others more (beginnings_agree (text ++ more) files others (ending ++ more) ending (longer_begins text more files is) longer)

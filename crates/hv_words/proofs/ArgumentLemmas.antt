-- How the words of a row are told to fit or not.
use Rattle.std.proofs.Common.{◌≡◌, ℕ, ◌+◌, List, ◌∷◌, sym, subst, inr}
use Rattle.hv_words.specs.declared.refusal.WordsRefusal.{WordsRefusal}
use Rattle.hv_words.specs.declared.refusal.WordsRefusal.TheVariants as refusal
use Rattle.hv_words.specs.Commands.{Kind, AnyPath, NamedPath, Argument, PathGiven, TextGiven, NumberGiven, WordGiven, Fits}
use Rattle.hv_words.specs.Arguments.{IsRefusedAt, AreRefusedFrom}

-- the misfit is a later word
later_misfit : (k : Kind) (ks : List Kind) (word : List ℕ) (rest : List (List ℕ)) (at : ℕ) (a : Argument) (e : WordsRefusal) → Fits k word a → AreRefusedFrom ks rest (at + 1) e → AreRefusedFrom (k ∷ ks) (word ∷ rest) at e
later_misfit k ks word rest at a refusal.NoCommand fits h = h
later_misfit k ks word rest at a (refusal.BadWords n) fits h = inr (a, fits, h)
later_misfit k ks word rest at a (refusal.Memory e) fits h = tt

pub refused_later : (k : Kind) (ks : List Kind) (word : List ℕ) (rest ws : List (List ℕ)) (at : ℕ) (a : Argument) (e : WordsRefusal) → ws ≡ word ∷ rest → Fits k word a → AreRefusedFrom ks rest (at + 1) e → AreRefusedFrom (k ∷ ks) ws at e
refused_later k ks word rest ws at a e is fits h = subst (λ (w : List (List ℕ)). AreRefusedFrom (k ∷ ks) w at e) (sym is) (later_misfit k ks word rest at a e fits h)

-- a path of a name at least is a path
named_is_any : (word : List ℕ) (a : Argument) → Fits NamedPath word a → Fits AnyPath word a
named_is_any word (PathGiven path) h = (h.0, h.2)
named_is_any word (TextGiven bytes) h = h
named_is_any word (NumberGiven n) h = h
named_is_any word (WordGiven w) h = h

-- what is no path is no path of a name at least
pub refused_as_named : (word : List ℕ) (at : ℕ) (e : WordsRefusal) → IsRefusedAt AnyPath word at e → IsRefusedAt NamedPath word at e
refused_as_named word at refusal.NoCommand h = h
refused_as_named word at (refusal.BadWords n) h = (h.0, λ a fits. h.1 a (named_is_any word a fits))
refused_as_named word at (refusal.Memory e) h = tt

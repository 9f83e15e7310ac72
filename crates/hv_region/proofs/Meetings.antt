-- The least owner of a window that meets another, window by window.
use Rattle.std.proofs.Common.{◌≡◌, ℕ, ◌+◌, ◌<◌, ◌≤◌, List, [], ◌∷◌, ◌++◌, length, get_or, take, min, refl, sym, ap, subst, ◌∙◌, inl, inr, arith}
use Rattle.std.specs.Prelude.{Option, Some, None, MatchOption}
use Rattle.std.specs.List.{All}
use Rattle.std.proofs.lemmas.Bool.{cases_lt}
use Rattle.std.proofs.lemmas.List.{take_more}
use Rattle.std.proofs.lemmas.List.Elements.{All-push, All-weaker, Contains-push, Contains-append_left}
use Rattle.hv_region.specs.Windows.{Meets, IsLeastMet, IsLesserOf}
use Rattle.hv_region.specs.declared.window.Window.{Window}

-- the least owner so far
abbrev pub Least : List Window → Window → Option ℕ → Type 0
Least windows window least = MatchOption least (All (λ there. Meets there window → ⊥) windows) (IsLeastMet windows window)

apart_push : (windows : List Window) (window next : Window) (least : Option ℕ) → (Meets next window → ⊥) → Least windows window least → Least (windows ++ next ∷ []) window least
apart_push windows window next None apart all = All-push (λ there. Meets there window → ⊥) windows next all apart
apart_push windows window next (Some owner) apart found = record {
  met = found.met;
  there = Contains-append_left windows (next ∷ []) found.met found.there;
  meets = found.meets;
  is = found.is;
  least = All-push (λ there. Meets there window → owner ≤ there.owner) windows next found.least (λ meets. absurd (apart meets));
}

lesser_met : (windows : List Window) (window next : Window) (owner : ℕ) → Meets next window → IsLeastMet windows window owner → IsLeastMet (windows ++ next ∷ []) window (min owner next.owner)
lesser_met windows window next owner meets found =
    elim (cases_lt next.owner owner) [
      | inl below ↦
          let is : min owner next.owner ≡ next.owner = omega arith in
          rw is (record {
            met = next;
            there = Contains-push windows next;
            meets = meets;
            is = refl;
            least = All-push (λ there. Meets there window → next.owner ≤ there.owner) windows next (All-weaker (λ there. Meets there window → owner ≤ there.owner) (λ there. Meets there window → next.owner ≤ there.owner) (λ there least met. let more : owner ≤ there.owner = least met in omega arith) windows found.least) (λ _. omega arith);
          })
      | inr above ↦
          let is : min owner next.owner ≡ owner = omega arith in
          rw is (record {
            met = found.met;
            there = Contains-append_left windows (next ∷ []) found.met found.there;
            meets = found.meets;
            is = found.is;
            least = All-push (λ there. Meets there window → owner ≤ there.owner) windows next found.least (λ _. above);
          })
    ]

met_push : (windows : List Window) (window next : Window) (least new : Option ℕ) → Meets next window → IsLesserOf least next.owner new → Least windows window least → Least (windows ++ next ∷ []) window new
met_push windows window next None new meets is all =
    subst (Least (windows ++ next ∷ []) window) (sym is) (record {
      met = next;
      there = Contains-push windows next;
      meets = meets;
      is = refl;
      least = All-push (λ there. Meets there window → next.owner ≤ there.owner) windows next (All-weaker (λ there. Meets there window → ⊥) (λ there. Meets there window → next.owner ≤ there.owner) (λ there none met. absurd (none met)) windows all) (λ _. omega arith);
    })
met_push windows window next (Some owner) new meets is found =
    subst (Least (windows ++ next ∷ []) window) (sym is) (lesser_met windows window next owner meets found)

-- one more window that doesn't meet it
pub apart_more : (windows : List Window) (window next : Window) (at : ℕ) (least : Option ℕ) → at < length windows → get_or windows at next ≡ next → (Meets next window → ⊥) → Least (take at windows) window least → Least (take (at + 1) windows) window least
apart_more windows window next at least lt is apart so_far =
    subst (λ (l : List Window). Least l window least) (sym (take_more windows at next lt ∙ ap (λ (w : Window). take at windows ++ w ∷ []) is)) (apart_push (take at windows) window next least apart so_far)

-- one more that meets it
pub met_more : (windows : List Window) (window next : Window) (at : ℕ) (least new : Option ℕ) → at < length windows → get_or windows at next ≡ next → Meets next window → IsLesserOf least next.owner new → Least (take at windows) window least → Least (take (at + 1) windows) window new
met_more windows window next at least new lt is meets lesser so_far =
    subst (λ (l : List Window). Least l window new) (sym (take_more windows at next lt ∙ ap (λ (w : Window). take at windows ++ w ∷ []) is)) (met_push (take at windows) window next least new meets lesser so_far)

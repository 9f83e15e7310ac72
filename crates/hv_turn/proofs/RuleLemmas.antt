-- Each step of the table keeps its rule, and what the rule tells at the end.
use Rattle.std.proofs.Common.{◌≡◌, ◌≢◌, ℕ, zero, suc, ◌+◌, ◌<◌, true, false, cond, eqb, eq-eqb, ne_eqb, List, [], ◌∷◌, length, get_or, set, drop, sym, refl, ap, ◌∙◌, subst, ⊎_elim, arith, length-set, get_or-set_same, Option, Some}
use mathlib.Core.Logic.{dite}
use mathlib.Core.Option.{some, none, some-injective, some-ne-none}
use native.Mathlib.Decide.{ℕ_discrete}
use lib.ListN.{get_elem?}
use lib.Seq.{set-get_or}
use prog.Atomic.{either}
use Rattle.std.specs.List.{AllByRecursion}
use Rattle.atomic_table.specs.Table.{State, Me, step, keeps, takes, gives, stepped, opening, Allows, Splits, Joins, Final, Seen}
use Rattle.atomic_table.proofs.Lists.{at_set, set_again, at_longer, set_here, set_else}
use Rattle.hv_turn.specs.declared.rule.PassState.{PassState}
use Rattle.hv_turn.specs.declared.rule.SeatView.{SeatView}
use Rattle.hv_turn.specs.History.{IsLater, MayLeave}
use Rattle.hv_turn.specs.Passes.{IsNamedBelow}
use Rattle.hv_turn.specs.Rule.{pass_state, having_seen, seat_view, one_pass, passes_from, all_from, first_pass, first_alone, without_first, joined, spent, IsPassAt, IsSeatAt, KeepsRule, acquired, released}
use Rattle.hv_turn.proofs.HistoryLemmas.{at_short, at_one, at_front, at_end, at_append, all_behind, later_itself, later_still, old_or_named}

no_true : {X : Type 0} → false ≡ true → X
no_true e = cc

module _ {T E : Type 0} (entries : T → List E) (names : E → Option ℕ) (n : ℕ) where
  abbrev S : Type 0
  S = State (Option T) (SeatView E)

  abbrev M : Type 0
  M = Me (Option T) (SeatView E)

  abbrev Rule : S → Type 0
  Rule = KeepsRule entries names n

  abbrev word : S → ℕ
  word s = get_or s.words 0 0

  abbrev At : List E → (ℕ → ℕ) → ℕ → PassState E → Type 0
  At = IsPassAt names n

  abbrev value_or : T → List (ℕ × Option T) → T
  value_or v ((k, Some x) ∷ xs) = x
  value_or v _ = v

  -- a step that changes nothing
  unchanged : (s : S) → Rule s → (id : ℕ) (view : SeatView E) → get_elem? s.views id ≡ some view → Rule (stepped s 0 (word s) id [] view keeps)
  unchanged s r id view at = subst (λ (x : List ℕ × List (SeatView E)). Rule record { words = x.0; homes = s.homes; views = x.1 }) (λ i. (sym (set-get_or s.words 0 0) i, sym (set_again s.views id view at) i)) r

  -- the seat id goes in, and takes the value
  went_in : (s : S) (r : Rule s) (id : ℕ) (p : PassState E) (v : T) → get_elem? s.views id ≡ some (one_pass false p) → word s ≡ 0 → entries v ≡ r.history
      → Rule (stepped s 0 1 id [] (one_pass true (having_seen (entries v) p)) (takes 0 (Some v)))
  went_in s r id p v at free same =
      let w : SeatView E = one_pass true (having_seen (entries v) p) in
      let wide = r.wide in
      let old = (r.each_seat id (one_pass false p) at).each 0 p refl in
      let now : get_or (set s.words 0 1) 0 0 ≡ 1 = get_or-set_same s.words 0 1 0 (omega arith) in record {
        history = r.history;
        holder = id;
        owner = r.owner;
        wide = length-set s.words 0 1 ∙ wide;
        free = λ e. absurd (omega arith);
        taken = λ _. (now, (w, set_here s.views id w (at_short s.views id _ at), refl));
        each_seat = λ j d here. ⊎_elim
            (λ (t : (j ≡ id) × (w ≡ d)). subst (λ (x : ℕ × SeatView E). IsSeatAt names n r.history r.owner (get_or (set s.words 0 1) 0 0) id x.0 x.1) (λ i. (sym t.0 i, t.1 i)) record {
              inside = λ _. (now, refl, (having_seen (entries v) p, refl, same));
              each = λ k q e. subst (At r.history r.owner id) (at_one _ k q e) record {
                below = old.below;
                later = subst (λ l. IsLater names p.number l r.history) (sym same) (later_itself names p.number r.history);
                owned = old.owned;
              };
            })
            (λ (t : (j ≢ id) × (get_elem? s.views j ≡ some d)). let k = r.each_seat j d t.1 in record {
              inside = λ i. let is = (k.inside i).0 in absurd (omega arith);
              each = k.each;
            })
            (at_set s.views id j w d here);
        named = r.named;
      }

  pub acquires : (slots id : ℕ) (m : M) (p : PassState E) → m ≡ (one_pass false p, []) → Allows Rule slots id m 0 (λ x. either (eqb x 0) 1 x) (acquired entries names (step slots 0 0 1 none) m)
  acquires slots id m p is = subst (λ (x : M). Allows Rule slots id x 0 (λ y. either (eqb y 0) 1 y) (acquired entries names (step slots 0 0 1 none) x)) (sym is) (λ s r deep at small. dite (ℕ_discrete (word s) 0)
      (λ free. let t = r.free free in let v : T = t.0 in let w : SeatView E = one_pass true (having_seen (entries v) p) in
      let old = (r.each_seat id (one_pass false p) at).each 0 p refl in (
        w,
        takes 0 (Some v),
        t.1,
        subst (λ q. Rule (stepped s 0 (either q 1 (word s)) id [] w (takes 0 (Some v)))) (sym (eq-eqb (word s) 0 free)) (went_in s r id p v at free t.2),
        (
          (λ not. absurd (not free)),
          λ _ q e. let same : p ≡ q = ap (λ (x : M). first_pass x.0.passes) e in (
            v,
            ap (λ (z : PassState E). let x : M = (one_pass true (having_seen (entries v) z), (0, Some v) ∷ []) in x) same,
            subst (λ z. IsLater names z.number z.seen (entries v)) same (subst (IsLater names p.number p.seen) (sym t.2) old.later),
          ),
        ),
      ))
      (λ held. (
        one_pass false p,
        keeps,
        tt,
        subst (λ q. Rule (stepped s 0 (either q 1 (word s)) id [] (one_pass false p) keeps)) (sym (ne_eqb (word s) 0 held)) (unchanged s r id (one_pass false p) at),
        ((λ _. refl), λ free. absurd (held free)),
      )))

  -- the seat id comes out, and gives a value back
  came_out : (s : S) (r : Rule s) (id : ℕ) (p : PassState E) (v : T) → 0 < length s.homes → get_elem? s.views id ≡ some (one_pass true p) → MayLeave names p.number p.seen (entries v)
      → Rule (stepped s 0 0 id ((0, Some v) ∷ []) (one_pass false (having_seen (entries v) p)) gives)
  came_out s r id p v deep at may =
      let new : List E = entries v in
      let w : SeatView E = one_pass false (having_seen new p) in
      let wide = r.wide in
      let k = r.each_seat id (one_pass true p) at in
      let old = k.each 0 p refl in
      let mine = k.inside refl in
      let same : p.seen ≡ r.history = ap (λ (x : SeatView E). (first_pass x.passes).seen) mine.2.1 ∙ mine.2.2 in
      let grows : MayLeave names p.number r.history new = subst (λ l. MayLeave names p.number l new) same may in
      let now : get_or (set s.words 0 0) 0 0 ≡ 0 = get_or-set_same s.words 0 0 0 (omega arith) in record {
        history = new;
        holder = r.holder;
        owner = r.owner;
        wide = length-set s.words 0 0 ∙ wide;
        free = λ _. (v, set_here s.homes 0 (some (Some v)) deep, refl);
        taken = λ h. absurd (h now);
        each_seat = λ j d here. ⊎_elim
            (λ (t : (j ≡ id) × (w ≡ d)). subst (λ (x : ℕ × SeatView E). IsSeatAt names n new r.owner (get_or (set s.words 0 0) 0 0) r.holder x.0 x.1) (λ i. (sym t.0 i, t.1 i)) record {
              inside = λ e. no_true e;
              each = λ i z e. subst (At new r.owner id) (at_one _ i z e) record { below = old.below; later = later_itself names p.number new; owned = old.owned };
            })
            (λ (t : (j ≢ id) × (get_elem? s.views j ≡ some d)). let q = r.each_seat j d t.1 in record {
              inside = λ e. absurd (t.0 ((q.inside e).1 ∙ sym mine.1));
              each = λ i z e. let o = q.each i z e in record {
                below = o.below;
                later = later_still names z.number p.number z.seen r.history new (λ h. t.0 (sym o.owned ∙ (ap r.owner h ∙ old.owned))) o.later grows;
                owned = o.owned;
              };
            })
            (at_set s.views id j w d here);
        named = λ i e here. ⊎_elim (λ h. r.named i e h) (λ (h : names e ≡ Some p.number). (p.number, h, old.below)) (old_or_named names p.number r.history new grows (suc i) e here);
      }

  pub releases : (id : ℕ) (m : M) (p : PassState E) (v : T) → m ≡ (one_pass true p, (0, Some v) ∷ []) → MayLeave names p.number p.seen (entries v)
      → Allows Rule 1 id m 0 (λ _. 0) (released entries (step 1 0 0 0 none) m)
  releases id m p v is may = subst (λ (x : M). Allows Rule 1 id x 0 (λ _. 0) (released entries (step 1 0 0 0 none) x)) (sym is) (λ s r deep at small. (
    one_pass false (having_seen (entries v) p),
    gives,
    tt,
    came_out s r id p v (omega arith) at may,
    λ q u e. λ i. (one_pass false (having_seen (entries (value_or v (e i).1)) (first_pass (e i).0.passes)), []),
  ))

  -- the handles from a number on are numbered so, and have seen this history
  pub in_passes_from : (number count : ℕ) (seen : List E) (i : ℕ) (p : PassState E) → get_elem? (passes_from number count seen) i ≡ some p → (p ≡ pass_state (number + i) seen) × (i < count)
  in_passes_from number zero seen i p e = absurd (some-ne-none p (sym e))
  in_passes_from number (suc count) seen zero p e = (sym (some-injective _ p e) ∙ ap (λ (x : ℕ). pass_state x seen) (omega arith), omega arith)
  in_passes_from number (suc count) seen (suc i) p e = let t = in_passes_from (suc number) count seen i p e in let l = t.1 in (t.0 ∙ ap (λ (x : ℕ). pass_state x seen) (omega arith), omega arith)

  -- the table as it is made
  pub starts : (v : T) (e : E) (words : List ℕ) (slots : List (Option T)) → entries v ≡ e ∷ [] → words ≡ 0 ∷ [] → slots ≡ Some v ∷ [] → Rule (opening words slots (all_from 0 n (entries v)))
  starts v e words slots is ws ss = subst (λ (x : List ℕ × List (Option T)). Rule (opening x.0 x.1 (all_from 0 n (entries v)))) (λ i. (sym ws i, sym ss i)) record {
    history = entries v;
    holder = 0;
    owner = λ _. 0;
    wide = refl;
    free = λ _. (v, refl, refl);
    taken = λ h. absurd (h refl);
    each_seat = λ j d at. let only = at_one _ j d at in subst (λ (x : SeatView E). IsSeatAt names n (entries v) (λ _. 0) 0 0 j x) only record {
      inside = λ h. no_true h;
      each = λ k p here. let t = in_passes_from 0 n (entries v) k p here in let l = t.1 in subst (At (entries v) (λ _. 0) j) (sym t.0) record {
        below = omega arith;
        later = later_itself names (0 + k) (entries v);
        owned = sym (at_front _ j d at);
      };
    };
    named = λ i x here. absurd (some-ne-none x (sym here ∙ ap (λ l. get_elem? l (suc i)) is));
  }

  -- the first handle of a seat goes to a new seat
  pub splits : (id : ℕ) (d : SeatView E) (p : PassState E) (ps : List (PassState E)) → d ≡ seat_view false (p ∷ ps) → ((i : ℕ) (q : PassState E) → get_elem? ps i ≡ some q → q.number ≢ p.number)
      → Splits Rule id d (without_first d) (first_alone d)
  splits id d p ps is apart = subst (λ (x : SeatView E). Splits Rule id x (without_first x) (first_alone x)) (sym is) (λ s r at.
      let new : ℕ = length s.views in
      let rest : SeatView E = seat_view false ps in
      let mine : SeatView E = seat_view false (p ∷ []) in
      let owner : ℕ → ℕ = λ k. cond (eqb k p.number) new (r.owner k) in
      let k = r.each_seat id (seat_view false (p ∷ ps)) at in
      let first = k.each 0 p refl in
      let long : id < new = at_short s.views id _ at in
      let keep : (q : PassState E) (j : ℕ) → q.number ≢ p.number → At r.history r.owner j q → At r.history owner j q =
      λ q j other o. record { below = o.below; later = o.later; owned = ap (λ x. cond x new (r.owner q.number)) (ne_eqb q.number p.number other) ∙ o.owned } in record {
        history = r.history;
        holder = r.holder;
        owner = owner;
        wide = r.wide;
        free = r.free;
        taken = λ h. let t = r.taken h in let away : r.holder ≢ id = λ e. no_true (ap (λ (x : SeatView E). x.inside) (some-injective _ t.1.0 (sym at ∙ (ap (get_elem? s.views) (sym e) ∙ t.1.1))) ∙ t.1.2) in
            (t.0, (t.1.0, at_longer (set s.views id rest) (mine ∷ []) r.holder t.1.0 (set_else s.views id r.holder rest away ∙ t.1.1), t.1.2));
        each_seat = λ j x here. ⊎_elim
            (λ (old : get_elem? (set s.views id rest) j ≡ some x). ⊎_elim
            (λ (t : (j ≡ id) × (rest ≡ x)). subst (λ (z : ℕ × SeatView E). IsSeatAt names n r.history owner (word s) r.holder z.0 z.1) (λ i. (sym t.0 i, t.1 i)) record {
              inside = λ e. no_true e;
              each = λ i q e. keep q id (apart i q e) (k.each (suc i) q e);
            })
            (λ (t : (j ≢ id) × (get_elem? s.views j ≡ some x)). let q = r.each_seat j x t.1 in record {
              inside = q.inside;
              each = λ i c e. let o = q.each i c e in keep c j (λ same. t.0 (sym o.owned ∙ (ap r.owner same ∙ first.owned))) o;
            })
            (at_set s.views id j rest x old))
            (λ (t : (j ≡ new) × (mine ≡ x)). subst (λ (z : ℕ × SeatView E). IsSeatAt names n r.history owner (word s) r.holder z.0 z.1) (λ i. (sym t.0 i, t.1 i)) record {
              inside = λ e. no_true e;
              each = λ i q e. subst (At r.history owner new) (at_one p i q e) record {
                below = first.below;
                later = first.later;
                owned = ap (λ x. cond x new (r.owner p.number)) (eq-eqb p.number p.number refl);
              };
            })
            (at_end (set s.views id rest) mine x j new (length-set s.views id rest) here);
        named = r.named;
      })

  -- the handles of a seat that is outside go to another that is outside
  pub joins : (id : ℕ) (d : SeatView E) (other : ℕ) (e : SeatView E) → d.inside ≡ false → e.inside ≡ false → Joins Rule id d other e (joined d e) spent
  joins id d other e out gone s r at apart there' =
      let all : SeatView E = joined d e in
      let there : get_elem? s.views other ≡ some e = sym (set_else s.views id other all apart) ∙ there' in
      let owner : ℕ → ℕ = λ k. cond (eqb (r.owner k) other) id (r.owner k) in
      let first = r.each_seat id d at in
      let second = r.each_seat other e there in
      let keep : (q : PassState E) (j : ℕ) → j ≢ other → At r.history r.owner j q → At r.history owner j q =
      λ q j away o. record {
        below = o.below;
        later = o.later;
        owned = ap (λ x. cond x id (r.owner q.number)) (ne_eqb (r.owner q.number) other (λ h. away (sym o.owned ∙ h))) ∙ o.owned;
      } in
      let move : (q : PassState E) → At r.history r.owner other q → At r.history owner id q =
      λ q o. record { below = o.below; later = o.later; owned = ap (λ x. cond x id (r.owner q.number)) (eq-eqb (r.owner q.number) other o.owned) } in record {
        history = r.history;
        holder = r.holder;
        owner = owner;
        wide = r.wide;
        free = r.free;
        taken = λ h. let t = r.taken h in
            let far : r.holder ≢ id = λ same. no_true (sym out ∙ (ap (λ (x : SeatView E). x.inside) (some-injective _ t.1.0 (sym at ∙ (ap (get_elem? s.views) (sym same) ∙ t.1.1))) ∙ t.1.2)) in
            let far' : r.holder ≢ other = λ same. no_true (sym gone ∙ (ap (λ (x : SeatView E). x.inside) (some-injective _ t.1.0 (sym there ∙ (ap (get_elem? s.views) (sym same) ∙ t.1.1))) ∙ t.1.2)) in
            (t.0, (t.1.0, set_else (set s.views id all) other r.holder spent far' ∙ (set_else s.views id r.holder all far ∙ t.1.1), t.1.2));
        each_seat = λ j x here. ⊎_elim
            (λ (t : (j ≡ other) × (spent ≡ x)). subst (λ (z : SeatView E). IsSeatAt names n r.history owner (word s) r.holder j z) t.1 record {
              inside = λ h. no_true h;
              each = λ i q h. absurd (some-ne-none q (sym h));
            })
            (λ (u : (j ≢ other) × (get_elem? (set s.views id all) j ≡ some x)). ⊎_elim
            (λ (t : (j ≡ id) × (all ≡ x)). subst (λ (z : ℕ × SeatView E). IsSeatAt names n r.history owner (word s) r.holder z.0 z.1) (λ i. (sym t.0 i, t.1 i)) record {
              inside = λ h. no_true h;
              each = λ i q h. ⊎_elim
                  (λ f. keep q id (λ x. apart (sym x)) (first.each f.0 q f.1))
                  (λ f. move q (second.each f.0 q f.1))
                  (at_append d.passes e.passes i q h);
            })
            (λ (t : (j ≢ id) × (get_elem? s.views j ≡ some x)). let q = r.each_seat j x t.1 in record { inside = q.inside; each = λ i c h. keep c j u.0 (q.each i c h) })
            (at_set s.views id j all x u.1))
            (at_set (set s.views id all) other j spent x here);
        named = r.named;
      }

  -- where one seat that is outside has every handle, no seat is inside
  none_inside : (s : S) (r : Rule s) (id : ℕ) (d : SeatView E) → get_elem? s.views id ≡ some d → d.inside ≡ false → ((k : ℕ) → k < n → (i : ℕ) × (p : PassState E) × (get_elem? d.passes i ≡ some p) × (p.number ≡ k)) → word s ≡ 0
  none_inside s r id d at out all = dite (ℕ_discrete (word s) 0) (λ z. z) (λ h.
      let t = r.taken h in
      let held = (r.each_seat r.holder t.1.0 t.1.1).inside t.1.2 in
      let p : PassState E = held.2.0 in
      let theirs = (r.each_seat r.holder (one_pass true p) (t.1.1 ∙ ap some held.2.1)).each 0 p refl in
      let mine = all p.number theirs.below in
      let own = (r.each_seat id d at).each mine.0 mine.1 mine.2 in
      let same : r.holder ≡ id = sym theirs.owned ∙ (ap r.owner (sym mine.3) ∙ own.owned) in
      no_true (sym out ∙ (ap (λ (x : SeatView E). x.inside) (some-injective d t.1.0 (sym at ∙ (ap (get_elem? s.views) (sym same) ∙ t.1.1))) ∙ t.1.2)))

  -- what a seat and the rule tell of a value with the rule's history
  tells : (s : S) (r : Rule s) (id : ℕ) (d : SeatView E) → get_elem? s.views id ≡ some d → (history : List E) → history ≡ r.history
      → ((i : ℕ) (p : PassState E) → get_elem? d.passes i ≡ some p → IsLater names p.number p.seen history) × AllByRecursion (IsNamedBelow names n) (drop 1 history)
  tells s r id d at history same = (
    (λ i p e. subst (IsLater names p.number p.seen) (sym same) ((r.each_seat id d at).each i p e).later),
    subst (λ l. AllByRecursion (IsNamedBelow names n) (drop 1 l)) (sym same) (all_behind (IsNamedBelow names n) r.history r.named),
  )

  -- once one seat that is outside has every handle, the value is in its slot, and its history goes on from what each handle has seen
  pub ends : (id : ℕ) (d : SeatView E) (words : List ℕ) (slots : List (Option T)) → d.inside ≡ false → ((k : ℕ) → k < n → (i : ℕ) × (p : PassState E) × (get_elem? d.passes i ≡ some p) × (p.number ≡ k))
      → Final (Seen Rule id d) words slots
      → (v : T) × (get_elem? slots 0 ≡ some (Some v)) × ((i : ℕ) (p : PassState E) → get_elem? d.passes i ≡ some p → IsLater names p.number p.seen (entries v))
      × AllByRecursion (IsNamedBelow names n) (drop 1 (entries v))
  ends id d words slots out all fin =
      let r : Rule fin.0 = fin.1.0 in
      let t = r.free (none_inside fin.0 r id d fin.1.1 out all) in
      let told = tells fin.0 r id d fin.1.1 (entries t.0) t.2 in (t.0, fin.4 0 (Some t.0) t.1, told.0, told.1)

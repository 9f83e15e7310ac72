-- How a place moves, as it is kept.
use Rattle.std.proofs.Common.{◌≡◌, ℕ, zero, suc, ◌+◌, ◌-◌, ◌<◌, ◌≤◌, List, ◌∷◌, length, get_or, drop, map, Some, None, refl, sym, ◌∙◌, ap, arith, add-one}
use Rattle.std.proofs.Math.Seq.{drop-cons}
use Rattle.std.proofs.lemmas.List.{drop_all}
use Rattle.std.proofs.lemmas.Option.{slice_get-get_or}
use Rattle.hv_answer.specs.declared.reply.Reply.{Reply}
use Rattle.hv_rules.specs.Line.{Ask, Verdict, rest, on, back, goes_on, verdict, moved, place_after, first, left, undoing, why_refused}
use Rattle.hv_rules.specs.Line as line
use Rattle.hv_programs.specs.declared.line.Way.{Way}
use Rattle.hv_programs.specs.declared.line.Way.TheVariants as way
use Rattle.hv_programs.specs.Line.{IsAsk, latest, place_of, refusal_in, refused_by, verdict_at}

-- the latest step comes first
pub latest_suc : (steps : List Ask) (n : ℕ) (d : Ask) → n < length steps → latest steps (suc n) ≡ get_or steps n d ∷ latest steps n
latest_suc steps n d h = rw (slice_get-get_or steps n d h) refl

-- only whether a step was made decides a verdict
pub verdict_same : (steps : List Ask) (n : ℕ) (a : Ask) (r : Reply) → n < length steps → verdict (latest steps n) a r ≡ verdict_at n a r
verdict_same steps zero a r h = refl
verdict_same steps (suc n) a r h =
    let below : n < length steps = omega arith in
    ap (λ (made : List Ask). verdict made a r) (latest_suc steps n rest below)

-- what a reply does on the way on
pub on_after : (steps : List Ask) (n : ℕ) (d : Ask) (r : Reply) → n < length steps → place_after (on (latest steps n) (drop n steps)) r ≡ moved (latest steps n) (get_or steps n d) (drop (suc n) steps) (verdict_at n (get_or steps n d) r)
on_after steps n d r h =
    ap (λ (todo : List Ask). place_after (on (latest steps n) todo) r) (drop-cons steps n d h)
    ∙ ap (λ (v : Verdict). moved (latest steps n) (get_or steps n d) (drop (suc n) steps) v) (verdict_same steps n (get_or steps n d) r h)

-- the same, by the verdict that was given on the step that was next
pub after_is : (w : Way) (steps : List Ask) (n : ℕ) (a : Ask) (r : Reply) (v : Verdict) → w ≡ way.On → n < length steps → a ≡ get_or steps n rest → v ≡ verdict_at n a r → place_after (place_of w steps n) r ≡ moved (latest steps n) a (drop (suc n) steps) v
after_is w steps n a r v is h next e =
    ap (λ (x : Way). place_after (place_of x steps n) r) is
    ∙ on_after steps n rest r h
    ∙ ap (λ (b : Ask). moved (latest steps n) b (drop (suc n) steps) (verdict_at n b r)) (sym next)
    ∙ ap (λ (x : Verdict). moved (latest steps n) a (drop (suc n) steps) x) (sym e)

-- a line that goes on has made one step more
pub goes_on_is : (w : Way) (steps : List Ask) (n : ℕ) (a : Ask) → w ≡ way.On → n < length steps → a ≡ get_or steps n rest → place_of w steps (n + 1) ≡ moved (latest steps n) a (drop (suc n) steps) goes_on
goes_on_is w steps n a is h next =
    ap (λ (x : Way). place_of x steps (n + 1)) is
    ∙ ap (λ (m : ℕ). on (latest steps m) (drop m steps)) (add-one n)
    ∙ ap (λ (made : List Ask). on made (drop (suc n) steps)) (latest_suc steps n rest h)
    ∙ ap (λ (b : Ask). on (b ∷ latest steps n) (drop (suc n) steps)) (sym next)

-- on the way back the latest step is undone
pub back_after : (w : Way) (why : _) (steps : List Ask) (n : ℕ) (r : Reply) → w ≡ way.Back why → 0 < n → n ≤ length steps → place_of w steps (n - 1) ≡ place_after (place_of w steps n) r
back_after w why steps zero r is some h = absurd (omega arith)
back_after w why steps (suc n) r is some h =
    let below : n < length steps = omega arith in
    let same : suc n - 1 ≡ n = omega arith in
    ap (λ (x : Way). place_of x steps (suc n - 1)) is
    ∙ ap (λ (m : ℕ). back why.value (latest steps m)) same
    ∙ sym (ap (λ (made : List Ask). place_after (back why.value made) r) (latest_suc steps n rest below))
    ∙ sym (ap (λ (x : Way). place_after (place_of x steps (suc n)) r) is)

-- what is asked next on the way on, if anything
pub next_on : (w : Way) (steps : List Ask) (n : ℕ) (d : Ask) → w ≡ way.On → n < length steps → first (left (place_of w steps n)) ≡ Some (get_or steps n d)
next_on w steps n d is h =
    ap (λ (x : Way). first (left (place_of x steps n))) is ∙ ap first (drop-cons steps n d h)

pub end_on : (w : Way) (steps : List Ask) (n : ℕ) → w ≡ way.On → length steps ≤ n → first (left (place_of w steps n)) ≡ None
end_on w steps n is h =
    ap (λ (x : Way). first (left (place_of x steps n))) is ∙ ap first (drop_all n steps h)

-- what is asked next on the way back, if anything
pub next_back : (w : Way) (why : _) (steps : List Ask) (n : ℕ) (d : Ask) → w ≡ way.Back why → 0 < n → n ≤ length steps → first (left (place_of w steps n)) ≡ Some (undoing (get_or steps (n - 1) d))
next_back w why steps zero d is some h = absurd (omega arith)
next_back w why steps (suc n) d is some h =
    let below : n < length steps = omega arith in
    let same : suc n - 1 ≡ n = omega arith in
    ap (λ (x : Way). first (left (place_of x steps (suc n)))) is
    ∙ ap (λ (made : List Ask). first (map undoing made)) (latest_suc steps n d below)
    ∙ ap (λ (m : ℕ). Some (undoing (get_or steps m d))) (sym same)

pub end_back : (w : Way) (why : _) (steps : List Ask) (n : ℕ) → w ≡ way.Back why → n ≡ 0 → first (left (place_of w steps n)) ≡ None
end_back w why steps n is none =
    ap (λ (x : Way). first (left (place_of x steps n))) is
    ∙ ap (λ (m : ℕ). first (left (back why.value (latest steps m)))) none

-- what undoes a step is one
pub undoing_is : (a : Ask) → IsAsk (undoing a)
undoing_is (line.add row) = tt
undoing_is _ = tt

-- where a verdict leaves a line is refused for what the verdict says
moved-why : (made : List Ask) (a : Ask) (todo : List Ask) (v : Verdict) → why_refused (moved made a todo v) ≡ refusal_in v
moved-why made a todo line.goes_on = refl
moved-why made a todo (line.turns_back why) = refl
moved-why made a todo (line.ends why) = refl

-- for what a reply refuses a line on its way
pub refused_is : (w : Way) (steps : List Ask) (n : ℕ) (a : Ask) (r : Reply) → w ≡ way.On → n < length steps → a ≡ get_or steps n rest → refused_by (place_of w steps n) r ≡ refusal_in (verdict_at n a r)
refused_is w steps n a r is h next =
    ap (λ (x : Way). refused_by (place_of x steps n) r) is
    ∙ ap why_refused (on_after steps n rest r h)
    ∙ moved-why (latest steps n) (get_or steps n rest) (drop (suc n) steps) (verdict_at n (get_or steps n rest) r)
    ∙ ap (λ (b : Ask). refusal_in (verdict_at n b r)) (sym next)

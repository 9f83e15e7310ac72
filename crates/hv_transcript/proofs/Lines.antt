-- What a reply does to a line of which a transcript knows by replies alone.
use Rattle.std.proofs.Common.{◌≡◌, ◌≤◌, ℕ, List, [], ◌∷◌, Some, None, Ok, Err, refl, arith}
use Rattle.std.specs.Prelude.{Option, Result}
use Rattle.std.specs.Option.{option_map}
use Rattle.hv_answer.specs.declared.reply.Reply.{Reply}
use Rattle.hv_answer.specs.declared.reply.Reply.TheVariants as reply
use Rattle.hv_refusal.specs.declared.refusal.Refusal.{Refusal}
use Rattle.hv_rules.specs.Carry.{Carry, nothing}
use Rattle.hv_rules.specs.Line.{Ask, LineState, Place, back, learnt, left, line_after, on, over, place_after, why_refused}
use Rattle.hv_model.specs.Session.{kept, kept_for}
use Rattle.hv_model.specs.Transcript.{changed_by, counted, while_left}
use Rattle.hv_programs.specs.Line.{refused_by}
use Rattle.hv_transcript.specs.Kept.{guest_in, left_told}
use Rattle.hv_transcript.specs.Telling.{refused_in, with_told}

-- a line that turned back or ended stays so, for the same refusal
pub why_stays : (p : Place) (why : Refusal) (r : Reply) → why_refused p ≡ Some why → why_refused (place_after p r) ≡ Some why
why_stays (on made todo) why r is = absurd (cc is)
why_stays (back w []) why r is = is
why_stays (back w (a ∷ made)) why r is = is
why_stays (over w) why r is = is

-- another does so for what the reply says
pub why_found : (p : Place) (r : Reply) → why_refused p ≡ None → refused_by p r ≡ why_refused (place_after p r)
why_found (on made todo) r is = refl
why_found (back w made) r is = absurd (cc is)
why_found (over w) r is = absurd (cc is)

-- by what is known of a line, what is left of it is told of as it is
again-for : (l : LineState) (told : Option (ℕ × ℕ)) (asks : List Ask) → option_map (with_told (guest_in (kept_for (with_told told l) asks))) (kept_for l asks) ≡ kept_for (with_told told l) asks
again-for l told [] = refl
again-for l told (a ∷ more) = refl

pub left-again : (l : LineState) (guest : Option (ℕ × ℕ)) (r : Reply) (c : Carry) → option_map (with_told (guest_in (left_told (with_told guest l) r))) (kept (line_after l r c)) ≡ left_told (with_told guest l) r
left-again l guest r c =
    again-for (line_after l r c) (learnt guest r nothing) (left (place_after l.place r))

-- and it turned back or ended for the same refusal
refused-for : (l : LineState) (told : Option (ℕ × ℕ)) (asks : List Ask) → refused_in (kept_for (with_told told l) asks) ≡ refused_in (kept_for l asks)
refused-for l told [] = refl
refused-for l told (a ∷ more) = refl

pub refused-again : (l : LineState) (guest : Option (ℕ × ℕ)) (r : Reply) (c : Carry) → refused_in (left_told (with_told guest l) r) ≡ refused_in (kept (line_after l r c))
refused-again l guest r c = refused-for (line_after l r c) (learnt guest r nothing) (left (place_after l.place r))

-- a line counts no more than it did, and a reply counts one change at most
pub while-few : (line : Option LineState) (changed : ℕ) → while_left line changed ≤ changed
while-few None changed = omega arith
while-few (Some l) changed = omega arith

counted-few : {A : Type 0} (answer : Result A Refusal) → counted answer ≤ 1
counted-few (Ok done) = omega arith
counted-few (Err why) = omega arith

pub changed-few : (r : Reply) → changed_by r ≤ 1
changed-few (reply.Kick answer) = counted-few answer
changed-few (reply.Resume answer) = counted-few answer
changed-few (reply.Pause answer) = counted-few answer
changed-few (reply.Halt answer) = counted-few answer
changed-few (reply.Reset answer) = counted-few answer
changed-few _ = omega arith

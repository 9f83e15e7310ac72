use Rattle.std.proofs.Common.{◌∙◌, ◌<◌, sym, length, ◌++◌, ◌∷◌, [], append-nil, arith, Some, None}
use Rattle.hv_rules.specs.Dir.{listed}
use Rattle.hv_guest_steps.proofs.Told.{told_place}
use Rattle.hv_guest_steps.proofs.directory.listed_guests.Goals as goal
use Rattle.hv_guest_steps.proofs.directory.listed_guests.Goals.{in-Some+in_ok-clone+in_ok-push, in_default}

pub loop-slot-preserved : goal.loop-slot-preserved
loop-slot-preserved c =
    let entries = c.args.dir.now.entries in
    let told = c.loop-slot.guests.items in
    let long = c.at_slot-first.ensures.entries.long in
    let within : c.loop-slot.slot < length c.args.dir.now.entries = omega arith in
    elim c.match-at_slot.branch [
      | in-Some+in_ok-clone+in_ok-push w ↦ (λ i. (w.guests-is i).items)
          ∙ (w.in_ok-push.ensures.items
          ∙ ((λ i. told ++ record { name = w.in_ok-clone.ensures.cases i; slot = w.in-Some.guest.now.slot; stage = w.in-Some.guest.now.stage } ∷ [])
          ∙ told_place listed entries c.loop-slot.slot (Some w.in-Some.guest.now) told within w.in-Some.ensures.entry c.loop-slot.invariant))
      | in_default w ↦ (λ i. (w.guests-is i).items)
          ∙ (sym (append-nil told) ∙ told_place listed entries c.loop-slot.slot None told within w.in_default.ensures.entry c.loop-slot.invariant)
    ]

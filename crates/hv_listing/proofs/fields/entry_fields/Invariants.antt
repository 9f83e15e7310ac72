use Rattle.std.proofs.Common.{◌≡◌, suc, length}
use Rattle.hv_listing.proofs.FieldLemmas.{HasTaken}
use Rattle.hv_listing.proofs.fields.entry_fields.Given as goal

abbrev pub invariant-loop : goal.invariant-loop
invariant-loop l = HasTaken l.fn.text l.fields.items l.rest × (suc (length l.fields.items) ≡ l.counter)

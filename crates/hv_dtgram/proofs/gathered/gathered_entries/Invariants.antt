use Rattle.std.proofs.Common.{◌-◌, ◌≤◌, List, length}
use Rattle.std.specs.Prelude.{None}
use Rattle.hv_dtlex.specs.declared.token.Token.{Token}
use Rattle.hv_dtlex.specs.declared.token.Mode.TheVariants.{Name}
use Rattle.hv_dtgram.specs.Lexed.{Lexes}
use Rattle.hv_dtgram.proofs.Gathering.{Leads}
use Rattle.hv_dtgram.proofs.gathered.gathered_entries.Given as goal

abbrev pub invariant-gathering : goal.invariant-gathering
invariant-gathering l = record {
  within : l.at ≤ length l.text;
  leads : (tokens : List Token) → Lexes l.text 0 Name tokens None → Leads l.text l.at l.mode l.gathered tokens;
}

abbrev pub decreases-gathering : goal.decreases-gathering
decreases-gathering l = length l.text - l.at

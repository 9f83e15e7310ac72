use Rattle.std.proofs.Common.{◌≡◌, ℕ, ◌+◌, ◌==◌, Bool, true, false, if◌then◌else◌, Some, None, [], ◌∷◌, length, refl}
use Rattle.hv_text.specs.Lines.{script_lines}
use Rattle.hv_words.specs.Words.{commands_of}
use Rattle.hv_model.specs.Origin.{Origin, boot_among, boot_script, own_among, own_script}
use Rattle.hv_model.specs.Terminal.{TerminalState}
use Rattle.hv_terminals.specs.Terminal.{at_start}
use Rattle.hv_terminals.proofs.laws.terminals_start_so.Goals as goal

abbrev started : Origin → ℕ → Bool → TerminalState
started O t first = record {
  count = 0;
  owed = [];
  session = record {
    line = None;
    boot = if first then commands_of (boot_script O) ∷ [] else [];
    own = commands_of (own_script O t) ∷ [];
    lines =
        (if first then length (script_lines (boot_among O.opening.scripts)) else 0)
        + length (script_lines (own_among O.opening.scripts t));
  };
  plans = O.opening.plans;
}

start-so : (O : Origin) (t : ℕ) (first : Bool) → started O t first ≡ at_start O.opening.plans (if first then Some (boot_script O) else None) (own_script O t)
start-so O t true = refl
start-so O t false = refl

pub returns : goal.returns
returns c = λ O t. start-so O t (t == 0)

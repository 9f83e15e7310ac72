-- What a run is answered, and what it opens.
use Rattle.std.specs.Prelude.{◌≡◌, ◌⊎◌, ℕ, ◌+◌, ◌≤◌, Option, Some, None, Result, Ok, Err, List, length}
use Rattle.hv_text.specs.declared.limits.TheConstants.{MOST_LINES}
use Rattle.hv_text.specs.Lines.{script_lines}
use Rattle.hv_words.specs.Words.{commands_of}
use Rattle.hv_refusal.specs.declared.refusal.Refusal.{Refusal}
use Rattle.hv_refusal.specs.declared.refusal.Refusal.TheVariants as refusal
use Rattle.hv_model.specs.Session.{Task, opened}
use Rattle.hv_rounds.specs.declared.terminal.Terminal.{Terminal}

-- the reply is what was found, or TooDeep or TooLong, and the lines are counted where a script was found
abbrev pub AnswersScript : Result (List ℕ) Refusal → Result (List ℕ) Refusal → Option ℕ → Type 0
AnswersScript (Ok bytes) r lines =
    (lines ≡ Some (length (script_lines bytes)))
    × ((r ≡ Ok bytes) ⊎ ((r ≡ Err refusal.TooDeep) ⊎ (r ≡ Err refusal.TooLong)))
AnswersScript (Err why) r lines = (lines ≡ None) × ((r ≡ Err why) ⊎ (r ≡ Err refusal.TooDeep))

-- the terminal has a further script open, of so many lines
pub record IsOpened (t t' : Terminal) (script : List (List ℕ)) (lines : ℕ) : Type 0 where
  pub scripts : (task : Task) → opened (record { task = task; boot = t.boot; own = t.own }) script ≡ record { task = task; boot = t'.boot; own = t'.own }
  pub number : t'.number ≡ t.number
  pub count : t'.count ≡ t.count
  pub stamp : t'.stamp ≡ t.stamp
  pub asked : t'.asked ≡ t.asked
  pub rests : t'.rests ≡ t.rests
  pub lines_are : t'.lines ≡ t.lines + lines
  pub shown : t'.shown ≡ t.shown

-- a script that may be opened has its lines counted, and they fit beside those that the terminal opened
abbrev pub MayOpen : ℕ → Result (List ℕ) Refusal → Option ℕ → Type 0
MayOpen so_far (Ok bytes) lines = (lines ≡ Some (length (script_lines bytes))) × (so_far + length (script_lines bytes) ≤ MOST_LINES)
MayOpen so_far (Err why) lines = Unit {0}

-- a run that is answered by a script opens it, and another opens nothing
abbrev pub RunOpens : Terminal → Terminal → Result (List ℕ) Refusal → Type 0
RunOpens t t' (Ok bytes) = IsOpened t t' (commands_of bytes) (length (script_lines bytes))
RunOpens t t' (Err why) = t' ≡ t

-- What the cells of a run mean in the abstract machine.
use Rattle.std.specs.Prelude.{◌≡◌, ℕ, zero, suc, ◌+◌, ◌-◌, Option, None, Some, List, [], replicate}
use Rattle.hv_rules.specs.Line.{LineState, on, rest, rests}
use Rattle.hv_model.specs.Plans.{Planned}
use Rattle.hv_model.specs.Session.{Session}
use Rattle.hv_model.specs.Terminal.{TerminalState}
use Rattle.hv_model.specs.Transcript.{Telling}
use Rattle.hv_rounds.specs.declared.terminal.Terminal.{Terminal}

-- a line that rests so often, of which so many rests are left
abbrev pub resting : (asked left : ℕ) → Option LineState
resting asked zero = None
resting asked (suc n) = Some (record {
  asked = rests asked;
  regions = [];
  guest = None;
  place = on (replicate (asked - suc n) rest) (replicate (suc n) rest);
})

-- what a terminal's scripts have come to
abbrev pub session_of : Terminal → Session
session_of t = record { line = resting t.asked t.rests; boot = t.boot; own = t.own; lines = t.lines }

-- a terminal's program state, where these are the guests of the host tree
abbrev pub value_of : List Planned → Terminal → TerminalState
value_of plans t = record { count = t.count; owed = []; session = session_of t; plans = plans }

-- what is told of a terminal so far
abbrev pub telling_of : Terminal → Telling
telling_of t = record { session = session_of t; changed = 0 }

-- the terminals differ in their open scripts alone
pub record SameButScripts (t t' : Terminal) : Type 0 where
  pub number : t'.number ≡ t.number
  pub count : t'.count ≡ t.count
  pub stamp : t'.stamp ≡ t.stamp
  pub asked : t'.asked ≡ t.asked
  pub rests : t'.rests ≡ t.rests
  pub lines : t'.lines ≡ t.lines
  pub shown : t'.shown ≡ t.shown

-- the second terminal has made one event more, of this stamp
pub record MadeOne (t t' : Terminal) (stamp : ℕ) : Type 0 where
  pub number : t'.number ≡ t.number
  pub count : t'.count ≡ t.count + 1
  pub stamp_is : t'.stamp ≡ stamp
  pub asked : t'.asked ≡ t.asked
  pub rests : t'.rests ≡ t.rests
  pub boot : t'.boot ≡ t.boot
  pub own : t'.own ≡ t.own
  pub lines : t'.lines ≡ t.lines
  pub shown : t'.shown ≡ t.shown

-- the terminals differ in what they have shown alone
pub record SameButShown (t t' : Terminal) : Type 0 where
  pub number : t'.number ≡ t.number
  pub count : t'.count ≡ t.count
  pub stamp : t'.stamp ≡ t.stamp
  pub asked : t'.asked ≡ t.asked
  pub rests : t'.rests ≡ t.rests
  pub boot : t'.boot ≡ t.boot
  pub own : t'.own ≡ t.own
  pub lines : t'.lines ≡ t.lines

-- the terminal has made and shown nothing
pub record IsNew (t : Terminal) (number : ℕ) : Type 0 where
  pub number_is : t.number ≡ number
  pub count : t.count ≡ 0
  pub stamp : t.stamp ≡ 0
  pub shown : t.shown ≡ []

-- the terminals differ in their stamp alone, which the second has from elsewhere
pub record BeginsAt (t t' : Terminal) (stamp : ℕ) : Type 0 where
  pub number : t'.number ≡ t.number
  pub count : t'.count ≡ t.count
  pub session : session_of t' ≡ session_of t
  pub shown : t'.shown ≡ t.shown
  pub stamp_is : t'.stamp ≡ stamp

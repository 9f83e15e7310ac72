-- One step of a terminal over the files.
use Rattle.std.specs.Prelude.{◌≡◌, ℕ, zero, suc, ◌+◌, ◌++◌, codes, max, Option, Some, Result, Ok, Err, List, []}
use Rattle.hv_text.specs.declared.limits.TheConstants.{GREATEST_STAMP}
use Rattle.hv_event.specs.declared.event.ActorId.TheVariants as actor
use Rattle.hv_step.specs.declared.step.Step.{Step}
use Rattle.hv_step.specs.declared.step.Step.TheVariants as step
use Rattle.hv_answer.specs.declared.reply.Reply.{Reply}
use Rattle.hv_answer.specs.declared.reply.Reply.TheVariants as reply
use Rattle.hv_dtree.specs.declared.node.Node.{Node}
use Rattle.hv_dts.specs.Reading.{IsSourceOf}
use Rattle.hv_model.specs.declared.entry.Entry.{Entry}
use Rattle.hv_rules.specs.Carry.{Carry, nothing}
use Rattle.hv_model.specs.Files.{FilesAgree, files_after}
use Rattle.hv_refusal.specs.declared.refusal.Refusal.{Refusal}
use Rattle.hv_refusal.specs.declared.refusal.Refusal.TheVariants as refusal
use Rattle.hv_words.specs.declared.command.Command.{Command}
use Rattle.hv_words.specs.Commands.{Gives, IsNoCommand, HasBadWord}
use Rattle.hv_model.specs.Work.{work_of, once}
use Rattle.hv_model.specs.Plans.{Planned}
use Rattle.hv_model.specs.Session.{begun, present, session_after}
use Rattle.hv_model.specs.Terminal.{TerminalAgrees}
use Rattle.hv_model.specs.Transcript.{line, ShowsEvent, ShowsReply, ShowsPresent}
use Rattle.hv_event.specs.declared.event.Event.{Event}
use Rattle.hv_rounds.specs.declared.stop.Stop.{Stop}
use Rattle.hv_rounds.specs.declared.stop.Stop.TheVariants as stop
use Rattle.hv_rounds.specs.declared.files.FileCell.{FileCell}
use Rattle.hv_rounds.specs.declared.terminal.Terminal.{Terminal}
use Rattle.hv_rounds.specs.Cells.{session_of, value_of, telling_of}

-- the files agree to the step, change by it and take its stamp, which is one more than theirs and the terminal's
pub record TouchesFiles (old new : FileCell) (own : ℕ) (e : Entry) : Type 0 where
  pub agrees : FilesAgree old.tree e.event.step e.event.reply e.carry
  pub after : new.tree ≡ files_after old.tree e.event.step e.event.reply
  pub stamp : new.stamp ≡ e.event.stamp
  pub next : e.event.stamp ≡ max own old.stamp + 1

-- the files stay, and the step's stamp is one more than the terminal's
pub record LeavesFiles (old new : FileCell) (own : ℕ) (e : Entry) : Type 0 where
  pub same : new ≡ old
  pub next : e.event.stamp ≡ own + 1

-- what a step of a terminal does to the files; terminals make no other steps yet
abbrev pub FilesPart : Step → FileCell → FileCell → ℕ → Entry → Type 0
FilesPart (step.Bad s) old new own e = LeavesFiles old new own e
FilesPart (step.Rest s) old new own e = LeavesFiles old new own e
FilesPart (step.Ls s) old new own e = TouchesFiles old new own e
FilesPart (step.Cat s) old new own e = TouchesFiles old new own e
FilesPart (step.Dts s) old new own e = TouchesFiles old new own e
FilesPart (step.Run s) old new own e = TouchesFiles old new own e
FilesPart (step.Mkdir s) old new own e = TouchesFiles old new own e
FilesPart (step.Rm s) old new own e = TouchesFiles old new own e
FilesPart (step.Write s) old new own e = TouchesFiles old new own e
FilesPart (step.Asm s) old new own e = TouchesFiles old new own e
FilesPart s old new own e = ⊥

-- a reply is one to a command, and what it shows is there: a source that is shown stands for a tree
abbrev pub IsShowable : Reply → Type 0
IsShowable (reply.Dts (Ok source)) = (tree : Node) × IsSourceOf source tree
IsShowable (reply.Dts (Err why)) = Unit {0}
IsShowable (reply.Bad why) = Unit {0}
IsShowable reply.Rest = Unit {0}
IsShowable (reply.Ls r) = Unit {0}
IsShowable (reply.Cat r) = Unit {0}
IsShowable (reply.Run r) = Unit {0}
IsShowable (reply.Mkdir r) = Unit {0}
IsShowable (reply.Rm r) = Unit {0}
IsShowable (reply.Write r) = Unit {0}
IsShowable (reply.Asm r) = Unit {0}
IsShowable r = ⊥

-- what a reply shows; a rest shows that its line is done
abbrev pub ShowsDone : Reply → List ℕ → Type 0
ShowsDone reply.Rest text = text ≡ line (codes "< ok")
ShowsDone r text = ShowsReply r text

-- and the end of a line, which has so many steps left
abbrev pub ShowsEnd : ℕ → Reply → List ℕ → Type 0
ShowsEnd (suc n) r text = text ≡ []
ShowsEnd zero r text = ShowsDone r text

-- an entry is the terminal's next step, and the terminal and the files are as it leaves them
pub record IsStep (old new : FileCell) (t t' : Terminal) (e : Entry) : Type 0 where
  pub actor : e.event.actor ≡ actor.Terminal t.number
  pub number : t'.number ≡ t.number
  pub agrees : (plans : List Planned) → TerminalAgrees (value_of plans t) e
  pub count : t'.count ≡ t.count + 1
  pub session : (plans : List Planned) (c : Carry) → session_of t' ≡ session_after plans (session_of t) e.event.reply c
  pub showable : IsShowable e.event.reply
  pub shows : (plans : List Planned) (changed : ℕ) (text : List ℕ) → ShowsEnd t'.rests e.event.reply text
      → ShowsPresent plans (present plans (session_of t)) changed e.event.step e.event.reply text
  pub stamp : t'.stamp ≡ e.event.stamp
  pub files : FilesPart e.event.step old new t.stamp e

-- the entry of an event of this terminal
abbrev pub Makes : ℕ → ℕ → ℕ → Step → Reply → Option ℕ → Entry → Type 0
Makes number index stamp step reply lines e =
    e ≡ record {
      event = record { actor = actor.Terminal number; index = index; stamp = stamp; step = step; reply = reply };
      carry = record nothing { lines = lines };
    }

-- the terminal t has begun its next command, whose line this is, and is then t'
pub record IsBegun (t t' : Terminal) (line : List ℕ) : Type 0 where
  pub done : t.rests ≡ 0
  pub command : begun (session_of t) ≡ Some (record { line = line; boot = t'.boot; own = t'.own })
  pub number : t'.number ≡ t.number
  pub count : t'.count ≡ t.count
  pub stamp : t'.stamp ≡ t.stamp
  pub rests : t'.rests ≡ 0
  pub lines : t'.lines ≡ t.lines

-- the line gives no command, and this is why
abbrev pub IsBadLine : List ℕ → Refusal → Type 0
IsBadLine line refusal.NoCommand = IsNoCommand line
IsBadLine line (refusal.BadWords n) = HasBadWord line n
IsBadLine line _ = ⊥

-- a step is stopped by its stamp only where the greatest of two stamps is the last one
abbrev pub SpentBy : {A : Type 0} → Result A Stop → ℕ → ℕ → Type 0
SpentBy result one other = (n : ℕ) → result ≡ Err (stop.Spent n) → (n ≡ GREATEST_STAMP) × (max one other ≡ n)

-- the line gives a command with this step
pub record IsAsked (line : List ℕ) (s : Step) : Type 0 where
  pub asked : Command
  pub gives : Gives line asked
  pub step_is : work_of asked ≡ once s

-- behind what a terminal has shown stands what a reply shows
pub record AppendsReply (r : Reply) (old new : List ℕ) : Type 0 where
  pub text : List ℕ
  pub shows : ShowsDone r text
  pub appended : new ≡ old ++ text

-- and what the end of a line shows, which has so many steps left
pub record AppendsEnd (rests : ℕ) (r : Reply) (old new : List ℕ) : Type 0 where
  pub text : List ℕ
  pub shows : ShowsEnd rests r text
  pub appended : new ≡ old ++ text

-- and what an event shows
pub record AppendsEvent (t : Terminal) (e : Event) (old new : List ℕ) : Type 0 where
  pub text : List ℕ
  pub shows : (plans : List Planned) → ShowsEvent plans (telling_of t) e text
  pub appended : new ≡ old ++ text

-- a step that is stopped by its stamp leaves the files
abbrev pub KeepsFiles : {A : Type 0} → Result A Stop → FileCell → FileCell → Type 0
KeepsFiles result old new = (n : ℕ) → result ≡ Err (stop.Spent n) → new ≡ old

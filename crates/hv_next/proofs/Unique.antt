-- A terminal has one next event at most.
use Rattle.std.proofs.Common.{◌≡◌, ℕ, ◌+◌, ◌⊎◌, inl, inr, Bool, true, false, nat_le, List, [], ◌∷◌, length, map, refl, sym, ap, subst, ◌∙◌}
use Rattle.std.specs.Prelude.{Result, Ok, Err, Option, None, Some}
use Rattle.std.specs.List.{AllByRecursion}
use Rattle.std.specs.Result.{result_ok}
use Rattle.std.proofs.lemmas.Bool.{false≢true}
use Rattle.hv_text.specs.Lines.{script_lines}
use Rattle.hv_text.specs.declared.limits.TheConstants.{OPEN_SCRIPTS, MOST_LINES}
use Rattle.hv_machine.specs.Machine.{State, MayHappen, greatest}
use Rattle.hv_dir.specs.Directory.{DirState, claimed}
use Rattle.hv_files.specs.declared.refusal.FileRefusal.{FileRefusal}
use Rattle.hv_event.specs.declared.event.CellId.{CellId}
use Rattle.hv_event.specs.declared.event.CellId.TheVariants as component
use Rattle.hv_event.specs.declared.event.ActorId.{ActorId}
use Rattle.hv_event.specs.declared.event.ActorId.TheVariants.{Terminal}
use Rattle.hv_kinds.specs.declared.generation.Generation.{Generation}
use Rattle.hv_kinds.specs.declared.stage.Stage.{Stage}
use Rattle.hv_kinds.specs.declared.stage.Stage.TheVariants.{Made}
use Rattle.hv_region.specs.declared.plan.VcpuPlan.{VcpuPlan}
use Rattle.hv_step.specs.declared.step.ByGuest.{ByGuest}
use Rattle.hv_step.specs.declared.step.Add.{Add}
use Rattle.hv_step.specs.declared.step.Bad.{Bad}
use Rattle.hv_step.specs.declared.step.Devreset.{Devreset}
use Rattle.hv_step.specs.declared.step.Drop.{Drop}
use Rattle.hv_step.specs.declared.step.Name.{Name}
use Rattle.hv_step.specs.declared.step.Rest.{Rest}
use Rattle.hv_step.specs.declared.step.Run.{Run}
use Rattle.hv_step.specs.declared.step.Vadd.{Vadd}
use Rattle.hv_step.specs.declared.step.Step.{Step}
use Rattle.hv_step.specs.declared.step.Step.TheVariants as step
use Rattle.hv_answer.specs.declared.reply.Reply.{Reply}
use Rattle.hv_answer.specs.declared.reply.Reply.TheVariants as reply
use Rattle.hv_refusal.specs.declared.refusal.Refusal.{Refusal}
use Rattle.hv_refusal.specs.declared.refusal.Refusal.TheVariants as refusal
use Rattle.hv_rules.specs.Carry.{Carry, nothing}
use Rattle.hv_rules.specs.Dir.{Admits, AdmitsBy, guest_in, named, with_region}
use Rattle.hv_rules.specs.Footprint.{past_dir, past_dir_if}
use Rattle.hv_rules.specs.Handed.{handed_over}
use Rattle.hv_rules.specs.Line.{Ask, rest, look, claim, turn, add, drop, add_vcpu, drop_vcpu, change, reset_device, kick, resume, pause, halt, reset, LineState, step_of}
use Rattle.hv_model.specs.Origin.{Origin}
use Rattle.hv_model.specs.Cell.{Component, Actor}
use Rattle.hv_model.specs.declared.entry.Entry.{Entry}
use Rattle.hv_model.specs.Files.{FileMap, refusal_of, read_file, FindsScript, FilesAgree}
use Rattle.hv_model.specs.Plans.{Planned, planned, refusal_for, row_of, region_of}
use Rattle.hv_model.specs.Session.{Present, present, scripts_of}
use Rattle.hv_model.specs.Shown.{shown_in, shown_by}
use Rattle.hv_model.specs.Terminal.{TerminalState, LengthAnswers, RunAnswers, IsNextStep, is_interrupt, vcpu_given}
use Rattle.hv_model.specs.Rules.{machine, components_of, footprint_of, IsAllowedAt}
use Rattle.hv_next.proofs.Guests.{both, admits-shown, dir-agrees, added, removed, on_row, readied, with_plan, Agreed, At, reset-once, add-once, drop-once, kick-once, resume-once, pause-once, halt-once, vreset-once, vdrop-once, vadd-once, pinned-once, sampled-once}
use Rattle.hv_next.proofs.Sources.{source-once, assembly-once}
use Rattle.hv_next.proofs.Told.{Says, says, next-step, vcpus_at, bad_reply}

-- the reply to a run of what was found
abbrev script_found : List ℕ → (fits : Bool) → Result (List ℕ) Refusal
script_found bytes true = Ok bytes
script_found bytes false = Err refusal.TooLong

abbrev script_reply : (full : Bool) → (lines : ℕ) → Result (List ℕ) FileRefusal → Result (List ℕ) Refusal
script_reply true lines found = Err refusal.TooDeep
script_reply false lines (Err why) = Err (refusal_of why)
script_reply false lines (Ok bytes) = script_found bytes (nat_le (lines + length (script_lines bytes)) MOST_LINES)

abbrev lines_found : Result (List ℕ) FileRefusal → Option ℕ
lines_found (Ok bytes) = Some (length (script_lines bytes))
lines_found (Err why) = None

found-lines : (found : Result (List ℕ) FileRefusal) (r : Result (List ℕ) Refusal) (n : Option ℕ) → FindsScript found r n → n ≡ lines_found found
found-lines (Ok bytes) r n h = h.0
found-lines (Err why) r n h = h.0

length-reply : (fits : Bool) (bytes : List ℕ) (r : Result (List ℕ) Refusal)
    → (r ≡ Ok bytes) ⊎ ((r ≡ Err refusal.TooDeep) ⊎ (r ≡ Err refusal.TooLong)) → LengthAnswers fits r → r ≡ script_found bytes fits
length-reply true bytes r h k = elim h [ inl p ↦ p | inr p ↦ elim p [ inl q ↦ absurd (k.0 q) | inr q ↦ absurd (k.1 q) ] ]
length-reply false bytes r h k = k

reply-is : (full : Bool) (lines : ℕ) (found : Result (List ℕ) FileRefusal) (r : Result (List ℕ) Refusal)
    → FindsScript found r (lines_found found) → RunAnswers full lines (lines_found found) r → r ≡ script_reply full lines found
reply-is true lines found r h k = k
reply-is false lines (Err why) r h k = elim h.1 [ inl p ↦ p | inr p ↦ absurd (k p) ]
reply-is false lines (Ok bytes) r h k = length-reply (nat_le (lines + length (script_lines bytes)) MOST_LINES) bytes r h.1 k

-- what a session says of the run of a script
abbrev RunTold : Option Present → (lines : ℕ) → Reply → Carry → Type 0
RunTold None lines r c = ⊥
RunTold (Some p) lines (reply.Run r) c = RunAnswers (nat_le OPEN_SCRIPTS (length (scripts_of p))) lines c.lines r
RunTold (Some p) lines r c = ⊥

run-is : (p : Present) (lines : ℕ) (m : FileMap) (script : Run) (r : Reply) (c : Carry)
    → FilesAgree m (step.Run script) r c → RunTold (Some p) lines r c
    → (r ≡ reply.Run (script_reply (nat_le OPEN_SCRIPTS (length (scripts_of p))) lines (read_file m script.path))) × (c.lines ≡ lines_found (read_file m script.path))
run-is p lines m script (reply.Run r) c h k =
    let found = read_file m script.path in
    let full = nat_le OPEN_SCRIPTS (length (scripts_of p)) in
    let same : c.lines ≡ lines_found found = found-lines found r c.lines h in
    let h' = subst (λ (n : Option ℕ). FindsScript found r n) same h in
    let k' = subst (λ (n : Option ℕ). RunAnswers full lines n r) same k in
    (ap reply.Run (reply-is full lines found r h' k'), same)
run-is p lines m script r c h k = absurd h

-- the same script has the same reply and the same number of lines
run-once : (p : Option Present) (lines : ℕ) (m : FileMap) (script : Run) (r q : Reply) (c d : Carry)
    → FilesAgree m (step.Run script) r c → FilesAgree m (step.Run script) q d
    → RunTold p lines r c → RunTold p lines q d → (r ≡ q) × (c.lines ≡ d.lines)
run-once None lines m script r q c d h k x y = absurd x
run-once (Some p) lines m script r q c d h k x y =
    let one = run-is p lines m script r c h x in
    let other = run-is p lines m script q d k y in
    (both one.0 other.0, both one.1 other.1)

run-told : (plans : List Planned) (p : Option Present) (owed : List Step) (lines : ℕ) (script : Run) (r : Reply) (c : Carry) → Says plans p owed lines (step.Run script) r c → RunTold p lines r c
run-told plans p (due ∷ owed) lines script r c h = absurd (false≢true h)
run-told plans None [] lines script r c h = h
run-told plans (Some p) [] lines script (reply.Run r) c h = h
run-told plans (Some p) [] lines script r c h = absurd h

-- what the directory gives of the guest that a step names, whatever the step shows
abbrev by_guest : DirState → Option ByGuest → Option Generation
by_guest d None = None
by_guest d (Some guest) = result_ok (guest_in d guest.name Made)

abbrev given_by : DirState → List Planned → Step → Option Generation
given_by d plans (step.Add x) = result_ok (with_region (row_of plans x.name x.region) (guest_in d x.name x.stage))
given_by d plans (step.Drop x) = result_ok (with_region (row_of plans x.name x.region) (guest_in d x.name x.stage))
given_by d plans (step.Devreset x) = result_ok (with_region (row_of plans x.name x.region) (guest_in d x.name Made))
given_by d plans (step.Kick x) = by_guest d x.guest
given_by d plans (step.Resume x) = by_guest d x.guest
given_by d plans (step.Pause x) = by_guest d x.guest
given_by d plans (step.Halt x) = by_guest d x.guest
given_by d plans (step.Reset x) = by_guest d x.guest
given_by d plans st = None

blind : (d : DirState) (plans : List Planned) (l : LineState) (one other : Option Generation) (a : Ask) → given_by d plans (step_of l one a) ≡ given_by d plans (step_of l other a)
blind d plans l one other rest = refl
blind d plans l one other (look vcpu) = refl
blind d plans l one other claim = refl
blind d plans l one other (turn from to) = refl
blind d plans l one other (add row) = refl
blind d plans l one other (drop stage row) = refl
blind d plans l one other (add_vcpu index) = refl
blind d plans l one other (drop_vcpu index) = refl
blind d plans l one other (change kick index) = refl
blind d plans l one other (change resume index) = refl
blind d plans l one other (change pause index) = refl
blind d plans l one other (change halt index) = refl
blind d plans l one other (change reset index) = refl
blind d plans l one other (reset_device row) = refl

-- the reply to a line that is no command, and the VCPUs of the guest that a line names
abbrev bad_at : Option Present → Reply
bad_at None = reply.Rest
bad_at (Some p) = bad_reply p.task

abbrev plans_at : List Planned → Option Present → List VcpuPlan
plans_at plans None = []
plans_at plans (Some p) = vcpus_at plans p.task

-- a step of a session says so; one that is owed is an interrupt step
abbrev OnSession : List Planned → Option Present → (lines : ℕ) → Step → Reply → Carry → Type 0
OnSession plans p lines st r c = Says plans p [] lines st r c

on-session : (plans : List Planned) (p : Option Present) (owed : List Step) (lines : ℕ) (st : Step) (r : Reply) (c : Carry) → is_interrupt st ≡ false → Says plans p owed lines st r c → OnSession plans p lines st r c
on-session plans p (due ∷ owed) lines st r c isnt h = absurd (false≢true (sym isnt ∙ h))
on-session plans p [] lines st r c isnt h = h

-- what is said of each kind of step
bad-told : (plans : List Planned) (p : Option Present) (lines : ℕ) (x : Bad) (r : Reply) (c : Carry) → OnSession plans p lines (step.Bad x) r c → r ≡ bad_at p
bad-told plans None lines x r c h = absurd h
bad-told plans (Some p) lines x r c h = h

rest-told : (plans : List Planned) (p : Option Present) (lines : ℕ) (x : Rest) (r : Reply) (c : Carry) → OnSession plans p lines (step.Rest x) r c → r ≡ reply.Rest
rest-told plans None lines x r c h = absurd h
rest-told plans (Some p) lines x r c h = h

name-told : (plans : List Planned) (p : Option Present) (lines : ℕ) (x : Name) (r : Reply) (c : Carry) → OnSession plans p lines (step.Name x) r c → c.stopped ≡ refusal_for (planned plans x.name)
name-told plans None lines x r c h = absurd h
name-told plans (Some p) lines x r c h = h

add-told : (plans : List Planned) (p : Option Present) (lines : ℕ) (x : Add) (r : Reply) (c : Carry) → OnSession plans p lines (step.Add x) r c
    → (c.row ≡ row_of plans x.name x.region) × (c.plan ≡ region_of plans x.name x.region)
add-told plans None lines x r c h = absurd h
add-told plans (Some p) lines x r c h = h

drop-told : (plans : List Planned) (p : Option Present) (lines : ℕ) (x : Drop) (r : Reply) (c : Carry) → OnSession plans p lines (step.Drop x) r c → c.row ≡ row_of plans x.name x.region
drop-told plans None lines x r c h = absurd h
drop-told plans (Some p) lines x r c h = h

reset-told : (plans : List Planned) (p : Option Present) (lines : ℕ) (x : Devreset) (r : Reply) (c : Carry) → OnSession plans p lines (step.Devreset x) r c → c.row ≡ row_of plans x.name x.region
reset-told plans None lines x r c h = absurd h
reset-told plans (Some p) lines x r c h = h

vadd-told : (plans : List Planned) (p : Option Present) (lines : ℕ) (x : Vadd) (r : Reply) (c : Carry) → OnSession plans p lines (step.Vadd x) r c
    → c.vcpu ≡ vcpu_given (plans_at plans p) x.vcpu
vadd-told plans None lines x r c h = absurd h
vadd-told plans (Some p) lines x r c h = h

-- the steps that a session makes
abbrev is_made : Step → Bool
is_made (step.Guests x) = false
is_made (step.Regions x) = false
is_made (step.Load x) = false
is_made (step.Mem x) = false
is_made (step.Feed x) = false
is_made (step.Output x) = false
is_made (step.Tick x) = false
is_made (step.Idle x) = false
is_made (step.Dispatch x) = false
is_made (step.Preempt x) = false
is_made (step.Leave x) = false
is_made (step.Take x) = false
is_made (step.Fetch x) = false
is_made (step.Access x) = false
is_made (step.Fault x) = false
is_made (step.Balance x) = false
is_made (step.Sample x) = false
is_made (step.Pin x) = false
is_made st = true

none-of : (plans : List Planned) (p : Present) (lines : ℕ) (st : Step) (r : Reply) (c : Carry) → is_made st ≡ false → OnSession plans (Some p) lines st r c → ⊥
none-of plans p lines (step.Guests x) r c isnt h = h
none-of plans p lines (step.Regions x) r c isnt h = h
none-of plans p lines (step.Load x) r c isnt h = h
none-of plans p lines (step.Mem x) r c isnt h = h
none-of plans p lines (step.Feed x) r c isnt h = h
none-of plans p lines (step.Output x) r c isnt h = h
none-of plans p lines (step.Tick x) r c isnt h = h
none-of plans p lines (step.Idle x) r c isnt h = h
none-of plans p lines (step.Dispatch x) r c isnt h = h
none-of plans p lines (step.Preempt x) r c isnt h = h
none-of plans p lines (step.Leave x) r c isnt h = h
none-of plans p lines (step.Take x) r c isnt h = h
none-of plans p lines (step.Fetch x) r c isnt h = h
none-of plans p lines (step.Access x) r c isnt h = h
none-of plans p lines (step.Fault x) r c isnt h = h
none-of plans p lines (step.Balance x) r c isnt h = h
none-of plans p lines (step.Sample x) r c isnt h = h
none-of plans p lines (step.Pin x) r c isnt h = h
none-of plans p lines st r c isnt h = absurd (false≢true (sym isnt))

none-told : (plans : List Planned) (p : Option Present) (lines : ℕ) (st : Step) (r : Reply) (c : Carry) → is_made st ≡ false → OnSession plans p lines st r c → ⊥
none-told plans None lines st r c isnt h = h
none-told plans (Some p) lines st r c isnt h = none-of plans p lines st r c isnt h

module _ (O : Origin) (s : State (machine O)) (t : ℕ) where
  abbrev terminal : TerminalState
  terminal = (s (Actor (Terminal t))).value

  abbrev here : Option Present
  here = present terminal.plans terminal.session

  abbrev files : FileMap
  files = (s (Component component.Files)).value

  abbrev dir : DirState
  dir = (s (Component component.Dir)).value

  abbrev made : ℕ → ℕ → Step → Reply → Carry → Entry
  made i n st r c = record { event = record { actor = Terminal t; index = i; stamp = n; step = st; reply = r }; carry = c }

  abbrev May : ℕ → ℕ → Step → Reply → Carry → Type 0
  May i n st r c = MayHappen (machine O) s (made i n st r c)

  told : (i n : ℕ) (st : Step) (r : Reply) (c : Carry) → May i n st r c → Says terminal.plans here terminal.owed terminal.session.lines st r c
  told i n st r c m = says terminal terminal.owed st r c m.agreed.0.step

  -- what a terminal says of a step that isn't owed
  abbrev OfSession : Step → Reply → Carry → Type 0
  OfSession st r c = OnSession terminal.plans here terminal.session.lines st r c

  -- no component asks for the index or the stamp
  cell-agreed : (i n : ℕ) (st : Step) (r : Reply) (c : Carry) (x : CellId) → IsAllowedAt (Component x) (s (Component x)).value (made i n st r c) → At O s t st r c (Component x)
  cell-agreed i n st r c component.Dir h = h
  cell-agreed i n st r c component.Shelf h = h
  cell-agreed i n st r c component.Files h = h
  cell-agreed i n st r c (component.Space g) h = h
  cell-agreed i n st r c (component.Queue q) h = h
  cell-agreed i n st r c (component.Vcpu v) h = h
  cell-agreed i n st r c (component.Body g j) h = h
  cell-agreed i n st r c (component.Area a) h = h

  all-agreed : (i n : ℕ) (st : Step) (r : Reply) (c : Carry) (xs : List CellId) → AllByRecursion (λ x. IsAllowedAt x (s x).value (made i n st r c)) (map Component xs)
      → AllByRecursion (At O s t st r c) (map Component xs)
  all-agreed i n st r c [] h = tt
  all-agreed i n st r c (x ∷ xs) h = (cell-agreed i n st r c x h.0, all-agreed i n st r c xs h.1)

  agreed : (i n : ℕ) (st : Step) (r : Reply) (c : Carry) → May i n st r c → Agreed O s t st r c
  agreed i n st r c m = all-agreed i n st r c (components_of O.opening.harts (made i n st r c)) m.agreed.1

  session-told : (i n : ℕ) (st : Step) (r : Reply) (c : Carry) → is_interrupt st ≡ false → May i n st r c → OfSession st r c
  session-told i n st r c isnt m = on-session terminal.plans here terminal.owed terminal.session.lines st r c isnt (told i n st r c m)

  -- what a step shows is what the directory gives
  row-shown : (gen : Option Generation) (later : Generation → List CellId) (refused : Refusal → Reply) (name : List ℕ) (stage : Stage) (row : Option ℕ) (st : Step) (r : Reply) (c : Carry)
      → (At O s t st r c (Component component.Dir) → Admits (with_region c.row (guest_in dir name stage)) gen refused r c) → c.row ≡ row
      → AllByRecursion (At O s t st r c) (map Component (past_dir gen later)) → gen ≡ result_ok (with_region row (guest_in dir name stage))
  row-shown gen later refused name stage row st r c admits is h =
      admits-shown (with_region c.row (guest_in dir name stage)) gen refused r c (admits (dir-agrees (At O s t st r c) gen later h))
      ∙ ap (λ (k : Option ℕ). result_ok (with_region k (guest_in dir name stage))) is

  guest-shown : (guest : Option ByGuest) (later : List CellId) (refused : Refusal → Reply) (st : Step) (r : Reply) (c : Carry)
      → (At O s t st r c (Component component.Dir) → AdmitsBy dir guest refused r c)
      → AllByRecursion (At O s t st r c) (map Component (past_dir_if guest later)) → shown_by guest ≡ by_guest dir guest
  guest-shown None later refused st r c admits h = refl
  guest-shown (Some guest) later refused st r c admits h =
      admits-shown (guest_in dir guest.name Made) guest.generation refused r c (admits (dir-agrees (At O s t st r c) guest.generation (λ g. later) h))

  shown-is : (i n : ℕ) (st : Step) (r : Reply) (c : Carry) → May i n st r c → shown_in st ≡ given_by dir terminal.plans st
  shown-is i n (step.Add x) r c m =
      row-shown x.generation _ (λ why. reply.Add (Err why)) x.name x.stage _ (step.Add x) r c (λ h. h)
      (add-told terminal.plans here terminal.session.lines x r c (session-told i n (step.Add x) r c refl m)).0 (agreed i n (step.Add x) r c m)
  shown-is i n (step.Drop x) r c m =
      row-shown x.generation _ (λ why. reply.Drop (Err why)) x.name x.stage _ (step.Drop x) r c (λ h. h)
      (drop-told terminal.plans here terminal.session.lines x r c (session-told i n (step.Drop x) r c refl m)) (agreed i n (step.Drop x) r c m)
  shown-is i n (step.Devreset x) r c m =
      row-shown x.generation _ (λ why. reply.Devreset (Err why)) x.name Made _ (step.Devreset x) r c (λ h. h)
      (reset-told terminal.plans here terminal.session.lines x r c (session-told i n (step.Devreset x) r c refl m)) (agreed i n (step.Devreset x) r c m)
  shown-is i n (step.Kick x) r c m = guest-shown x.guest _ (λ why. reply.Kick (Err why)) (step.Kick x) r c (λ h. h) (agreed i n (step.Kick x) r c m)
  shown-is i n (step.Resume x) r c m = guest-shown x.guest _ (λ why. reply.Resume (Err why)) (step.Resume x) r c (λ h. h) (agreed i n (step.Resume x) r c m)
  shown-is i n (step.Pause x) r c m = guest-shown x.guest _ (λ why. reply.Pause (Err why)) (step.Pause x) r c (λ h. h) (agreed i n (step.Pause x) r c m)
  shown-is i n (step.Halt x) r c m = guest-shown x.guest _ (λ why. reply.Halt (Err why)) (step.Halt x) r c (λ h. h) (agreed i n (step.Halt x) r c m)
  shown-is i n (step.Reset x) r c m = guest-shown x.guest _ (λ why. reply.Reset (Err why)) (step.Reset x) r c (λ h. h) (agreed i n (step.Reset x) r c m)
  shown-is i n (step.Regions x) r c m = absurd (none-told terminal.plans here terminal.session.lines (step.Regions x) r c refl (session-told i n (step.Regions x) r c refl m))
  shown-is i n (step.Load x) r c m = absurd (none-told terminal.plans here terminal.session.lines (step.Load x) r c refl (session-told i n (step.Load x) r c refl m))
  shown-is i n (step.Mem x) r c m = absurd (none-told terminal.plans here terminal.session.lines (step.Mem x) r c refl (session-told i n (step.Mem x) r c refl m))
  shown-is i n (step.Feed x) r c m = absurd (none-told terminal.plans here terminal.session.lines (step.Feed x) r c refl (session-told i n (step.Feed x) r c refl m))
  shown-is i n (step.Output x) r c m = absurd (none-told terminal.plans here terminal.session.lines (step.Output x) r c refl (session-told i n (step.Output x) r c refl m))
  shown-is i n st r c m = refl

  -- what is handed over, and that the components agree to it so
  hands : (i n : ℕ) (st : Step) (r : Reply) (c : Carry) → May i n st r c → c ≡ handed_over st c
  hands i n st r c m = m.agreed.0.carry

  agreed-as : (i n : ℕ) (st : Step) (r : Reply) (c d : Carry) → May i n st r c → c ≡ d → Agreed O s t st r d
  agreed-as i n st r c d m is = subst (λ (k : Carry). Agreed O s t st r k) is (agreed i n st r c m)

  -- where nothing is handed over the reply decides
  alone : (i n j k : ℕ) (st : Step) (r q : Reply) (c d : Carry) → ((z : Carry) → handed_over st z ≡ nothing) → May i n st r c → May j k st q d → r ≡ q → (r ≡ q) × (c ≡ d)
  alone i n j k st r q c d none a b same = (same, both (hands i n st r c a ∙ none c) (hands j k st q d b ∙ none d))

  -- of changes of VCPUs
  with-none : (i n : ℕ) (st : Step) (r : Reply) (c : Carry) → ((z : Carry) → handed_over st z ≡ nothing) → May i n st r c → Agreed O s t st r nothing
  with-none i n st r c none m = agreed-as i n st r c nothing m (hands i n st r c m ∙ none c)

  -- the same step has the same reply and hands over the same
  same-answer : (i n j k : ℕ) (st : Step) (r q : Reply) (c d : Carry) → May i n st r c → May j k st q d → (r ≡ q) × (c ≡ d)
  same-answer i n j k (step.Bad x) r q c d a b =
      let one = bad-told terminal.plans here terminal.session.lines x r c (session-told i n (step.Bad x) r c refl a) in
      let other = bad-told terminal.plans here terminal.session.lines x q d (session-told j k (step.Bad x) q d refl b) in
      alone i n j k (step.Bad x) r q c d (λ z. refl) a b (both one other)
  same-answer i n j k (step.Rest x) r q c d a b =
      let one = rest-told terminal.plans here terminal.session.lines x r c (session-told i n (step.Rest x) r c refl a) in
      let other = rest-told terminal.plans here terminal.session.lines x q d (session-told j k (step.Rest x) q d refl b) in
      alone i n j k (step.Rest x) r q c d (λ z. refl) a b (both one other)
  same-answer i n j k (step.Ls x) r q c d a b = alone i n j k (step.Ls x) r q c d (λ z. refl) a b (both a.agreed.1.0 b.agreed.1.0)
  same-answer i n j k (step.Cat x) r q c d a b = alone i n j k (step.Cat x) r q c d (λ z. refl) a b (both a.agreed.1.0 b.agreed.1.0)
  same-answer i n j k (step.Mkdir x) r q c d a b = alone i n j k (step.Mkdir x) r q c d (λ z. refl) a b (both a.agreed.1.0 b.agreed.1.0)
  same-answer i n j k (step.Rm x) r q c d a b = alone i n j k (step.Rm x) r q c d (λ z. refl) a b (both a.agreed.1.0 b.agreed.1.0)
  same-answer i n j k (step.Write x) r q c d a b = alone i n j k (step.Write x) r q c d (λ z. refl) a b (both a.agreed.1.0 b.agreed.1.0)
  same-answer i n j k (step.Dts x) r q c d a b =
      let one = a.agreed.1.0 in
      let other = b.agreed.1.0 in
      let same = source-once (read_file files x.path) one.0 other.0 one.2 other.2 in
      alone i n j k (step.Dts x) r q c d (λ z. refl) a b (one.1 ∙ ap reply.Dts same ∙ sym other.1)
  same-answer i n j k (step.Asm x) r q c d a b =
      let one = a.agreed.1.0 in
      let other = b.agreed.1.0 in
      let same = assembly-once files (read_file files x.source) x.target one.0 other.0 one.2 other.2 in
      alone i n j k (step.Asm x) r q c d (λ z. refl) a b (one.1 ∙ ap reply.Asm same ∙ sym other.1)
  same-answer i n j k (step.Run x) r q c d a b =
      let one = run-told terminal.plans here terminal.owed terminal.session.lines x r c (told i n (step.Run x) r c a) in
      let other = run-told terminal.plans here terminal.owed terminal.session.lines x q d (told j k (step.Run x) q d b) in
      let same = run-once here terminal.session.lines files x r q c d a.agreed.1.0 b.agreed.1.0 one other in
      (same.0, hands i n (step.Run x) r c a ∙ ap (λ (lines : Option ℕ). record nothing { lines = lines }) same.1 ∙ sym (hands j k (step.Run x) q d b))
  same-answer i n j k (step.Name x) r q c d a b =
      let one = name-told terminal.plans here terminal.session.lines x r c (session-told i n (step.Name x) r c refl a) in
      let other = name-told terminal.plans here terminal.session.lines x q d (session-told j k (step.Name x) q d refl b) in
      let stopped : c.stopped ≡ d.stopped = both one other in (
        a.agreed.1.0 ∙ ap (λ (why : Option Refusal). reply.Name (named why (claimed dir x.name))) stopped ∙ sym b.agreed.1.0,
        hands i n (step.Name x) r c a ∙ ap (λ (why : Option Refusal). record nothing { stopped = why }) stopped ∙ sym (hands j k (step.Name x) q d b),
      )
  same-answer i n j k (step.Stage x) r q c d a b =
      let guest : c.guest ≡ d.guest = both a.agreed.1.0.1 b.agreed.1.0.1 in (
        both a.agreed.1.0.0 b.agreed.1.0.0,
        hands i n (step.Stage x) r c a ∙ ap (λ (g : Option (ℕ × ℕ)). record nothing { guest = g }) guest ∙ sym (hands j k (step.Stage x) q d b),
      )
  same-answer i n j k (step.Add x) r q c d a b =
      let one = add-told terminal.plans here terminal.session.lines x r c (session-told i n (step.Add x) r c refl a) in
      let other = add-told terminal.plans here terminal.session.lines x q d (session-told j k (step.Add x) q d refl b) in
      let row = row_of terminal.plans x.name x.region in
      let plan = region_of terminal.plans x.name x.region in
      let left : c ≡ added row plan c.stopped c.target c.device c.parent =
      hands i n (step.Add x) r c a ∙ (λ z. added (one.0 z) (one.1 z) c.stopped c.target c.device c.parent) in
      let right : d ≡ added row plan d.stopped d.target d.device d.parent =
      hands j k (step.Add x) q d b ∙ (λ z. added (other.0 z) (other.1 z) d.stopped d.target d.device d.parent) in
      let same = add-once O s t x.name x.region x.stage x.generation row plan c.stopped d.stopped c.target d.target c.device d.device c.parent d.parent r q
      (agreed-as i n (step.Add x) r c _ a left) (agreed-as j k (step.Add x) q d _ b right) in
      (same.0, left ∙ same.1 ∙ sym right)
  same-answer i n j k (step.Drop x) r q c d a b =
      let one = drop-told terminal.plans here terminal.session.lines x r c (session-told i n (step.Drop x) r c refl a) in
      let other = drop-told terminal.plans here terminal.session.lines x q d (session-told j k (step.Drop x) q d refl b) in
      let row = row_of terminal.plans x.name x.region in
      let left : c ≡ removed row c.target c.device c.parent = hands i n (step.Drop x) r c a ∙ (λ z. removed (one z) c.target c.device c.parent) in
      let right : d ≡ removed row d.target d.device d.parent = hands j k (step.Drop x) q d b ∙ (λ z. removed (other z) d.target d.device d.parent) in
      let same = drop-once O s t x.name x.region x.stage x.generation row c.target d.target c.device d.device c.parent d.parent r q
      (agreed-as i n (step.Drop x) r c _ a left) (agreed-as j k (step.Drop x) q d _ b right) in
      (same.0, left ∙ same.1 ∙ sym right)
  same-answer i n j k (step.Devreset x) r q c d a b =
      let one = reset-told terminal.plans here terminal.session.lines x r c (session-told i n (step.Devreset x) r c refl a) in
      let other = reset-told terminal.plans here terminal.session.lines x q d (session-told j k (step.Devreset x) q d refl b) in
      let row = row_of terminal.plans x.name x.region in
      let left : c ≡ on_row row c.parent = hands i n (step.Devreset x) r c a ∙ (λ z. on_row (one z) c.parent) in
      let right : d ≡ on_row row d.parent = hands j k (step.Devreset x) q d b ∙ (λ z. on_row (other z) d.parent) in
      let same = reset-once O s t x.name x.region x.generation row c.parent d.parent r q
      (agreed-as i n (step.Devreset x) r c _ a left) (agreed-as j k (step.Devreset x) q d _ b right) in
      (same.0, left ∙ ap (on_row row) same.1 ∙ sym right)
  same-answer i n j k (step.Vadd x) r q c d a b =
      let one = vadd-told terminal.plans here terminal.session.lines x r c (session-told i n (step.Vadd x) r c refl a) in
      let other = vadd-told terminal.plans here terminal.session.lines x q d (session-told j k (step.Vadd x) q d refl b) in
      let left = hands i n (step.Vadd x) r c a ∙ ap with_plan one in
      let right = hands j k (step.Vadd x) q d b ∙ ap with_plan other in
      (vadd-once O s t x.vcpu x.birth _ r q (agreed-as i n (step.Vadd x) r c _ a left) (agreed-as j k (step.Vadd x) q d _ b right), left ∙ sym right)
  same-answer i n j k (step.Vdrop x) r q c d a b =
      alone i n j k (step.Vdrop x) r q c d (λ z. refl) a b
      (vdrop-once O s t x.vcpu r q (with-none i n (step.Vdrop x) r c (λ z. refl) a) (with-none j k (step.Vdrop x) q d (λ z. refl) b))
  same-answer i n j k (step.Kick x) r q c d a b =
      let left = hands i n (step.Kick x) r c a in
      let right = hands j k (step.Kick x) q d b in
      let same = kick-once O s t x.vcpu x.guest c.priority d.priority r q (agreed-as i n (step.Kick x) r c _ a left) (agreed-as j k (step.Kick x) q d _ b right) in
      (same.0, left ∙ ap readied same.1 ∙ sym right)
  same-answer i n j k (step.Resume x) r q c d a b =
      let left = hands i n (step.Resume x) r c a in
      let right = hands j k (step.Resume x) q d b in
      let same = resume-once O s t x.vcpu x.guest c.priority d.priority r q (agreed-as i n (step.Resume x) r c _ a left) (agreed-as j k (step.Resume x) q d _ b right) in
      (same.0, left ∙ ap readied same.1 ∙ sym right)
  same-answer i n j k (step.Pause x) r q c d a b =
      alone i n j k (step.Pause x) r q c d (λ z. refl) a b
      (pause-once O s t x.vcpu x.guest r q (with-none i n (step.Pause x) r c (λ z. refl) a) (with-none j k (step.Pause x) q d (λ z. refl) b))
  same-answer i n j k (step.Halt x) r q c d a b =
      alone i n j k (step.Halt x) r q c d (λ z. refl) a b
      (halt-once O s t x.vcpu x.guest r q (with-none i n (step.Halt x) r c (λ z. refl) a) (with-none j k (step.Halt x) q d (λ z. refl) b))
  same-answer i n j k (step.Reset x) r q c d a b =
      alone i n j k (step.Reset x) r q c d (λ z. refl) a b
      (vreset-once O s t x.vcpu x.guest r q (with-none i n (step.Reset x) r c (λ z. refl) a) (with-none j k (step.Reset x) q d (λ z. refl) b))
  same-answer i n j k (step.Look x) r q c d a b = alone i n j k (step.Look x) r q c d (λ z. refl) a b (both a.agreed.1.0 b.agreed.1.0)
  same-answer i n j k (step.Sample x) r q c d a b =
      alone i n j k (step.Sample x) r q c d (λ z. refl) a b
      (sampled-once O s t x.row x.parent x.source x.generation r q c d (agreed i n (step.Sample x) r c a) (agreed j k (step.Sample x) q d b))
  same-answer i n j k (step.Pin x) r q c d a b =
      let left = hands i n (step.Pin x) r c a in
      let right = hands j k (step.Pin x) q d b in
      let same = pinned-once O s t x.row x.vcpu x.generation r q c.priority d.priority (agreed-as i n (step.Pin x) r c _ a left) (agreed-as j k (step.Pin x) q d _ b right) in
      (same.0, left ∙ ap readied same.1 ∙ sym right)
  same-answer i n j k st r q c d a b =
      absurd (none-told terminal.plans here terminal.session.lines st r c refl (session-told i n st r c refl a))

  -- so index and stamp are the same too
  abbrev next_stamp : Step → Reply → Carry → ℕ
  next_stamp st r c = greatest (map (λ x. (s x).stamp) (footprint_of O.opening.harts (made 0 0 st r c))) + 1

  unique : (i n j k : ℕ) (st su : Step) (r q : Reply) (c d : Carry) → May i n st r c → May j k su q d → made i n st r c ≡ made j k su q d
  unique i n j k st su r q c d a b =
      let steps : st ≡ su =
      next-step (given_by dir terminal.plans) (blind dir terminal.plans) terminal terminal.owed st su r q c d (shown-is i n st r c a, shown-is j k su q d b) a.agreed.0.step b.agreed.0.step in
      let b' : May j k st q d = subst (λ (z : Step). May j k z q d) (sym steps) b in
      let same = same-answer i n j k st r q c d a b' in
      let indexes : i ≡ j = both a.agreed.0.index b.agreed.0.index in
      let stamps : n ≡ k = a.stamped ∙ ap (λ (z : Reply). next_stamp st z c) same.0 ∙ ap (next_stamp st q) same.1 ∙ sym b'.stamped in
      ap (λ (z : ℕ). made z n st r c) indexes ∙ ap (λ (z : ℕ). made j z st r c) stamps ∙ ap (λ (z : Step). made j k z r c) steps
      ∙ ap (λ (z : Reply). made j k su z c) same.0 ∙ ap (made j k su q) same.1

  -- an event by its parts
  parts : (e : Entry) → e.event.actor ≡ Terminal t → e ≡ made e.event.index e.event.stamp e.event.step e.event.reply e.carry
  parts e is = ap (λ (a : ActorId). record { event = record { actor = a; index = e.event.index; stamp = e.event.stamp; step = e.event.step; reply = e.event.reply }; carry = e.carry }) is

  pub makes-step : (e : Entry) → e.event.actor ≡ Terminal t → MayHappen (machine O) s e → IsNextStep terminal terminal.owed e.event.step e.event.reply e.carry
  makes-step e is may =
      let Happens : Entry → Type 0 = MayHappen (machine O) s in
      let it : May e.event.index e.event.stamp e.event.step e.event.reply e.carry = subst Happens (parts e is) may in
      it.agreed.0.step

  pub next-unique : (e f : Entry) → e.event.actor ≡ Terminal t → f.event.actor ≡ Terminal t → MayHappen (machine O) s e → MayHappen (machine O) s f → e ≡ f
  next-unique e f p q a b =
      let Happens : Entry → Type 0 = MayHappen (machine O) s in
      parts e p
      ∙ unique e.event.index e.event.stamp f.event.index f.event.stamp e.event.step f.event.step e.event.reply f.event.reply e.carry f.carry
      (subst Happens (parts e p) a) (subst Happens (parts f q) b)
      ∙ sym (parts f q)

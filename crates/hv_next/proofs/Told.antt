-- What a terminal says of its next step, whatever the components answer.
use Rattle.std.proofs.Common.{◌≡◌, ℕ, Bool, true, false, List, [], ◌∷◌, refl, sym, ap, subst, ◌∙◌}
use Rattle.std.specs.Prelude.{Result, Ok, Err, Option, None, Some}
use Rattle.std.proofs.lemmas.Bool.{false≢true}
use Rattle.hv_answer.specs.declared.reply.Reply.{Reply}
use Rattle.hv_answer.specs.declared.reply.Reply.TheVariants as reply
use Rattle.hv_region.specs.declared.plan.VcpuPlan.{VcpuPlan}
use Rattle.hv_rules.specs.Carry.{Carry}
use Rattle.hv_rules.specs.Line.{Ask, rest, look, claim, turn, add, drop, add_vcpu, drop_vcpu, change, reset_device, kick, resume, pause, halt, reset, LineState, guest_name, left, first, step_of, step_for, next_step}
use Rattle.hv_step.specs.declared.step.Step.{Step}
use Rattle.hv_step.specs.declared.step.Step.TheVariants as step
use Rattle.hv_words.specs.declared.command.Command.{Command}
use Rattle.hv_words.specs.declared.command.Command.TheVariants as command
use Rattle.hv_words.specs.declared.refusal.WordsRefusal.{WordsRefusal}
use Rattle.hv_words.specs.Said.{said}
use Rattle.hv_kinds.specs.declared.generation.Generation.{Generation}
use Rattle.hv_model.specs.Work.{Work, once, several, work_of}
use Rattle.hv_model.specs.Plans.{Planned, planned, refusal_for, vcpus_of, row_of, region_of}
use Rattle.hv_model.specs.Session.{Session, Begun, begun, Task, makes, goes, tells, Present, task_for, task_of, first_of, present_with, present}
use Rattle.hv_model.specs.Shown.{shown_in, showing}
use Rattle.hv_model.specs.Terminal.{TerminalState, Asks, vcpu_given, Goes, refusal_of, FitsTask, FitsPresent, is_interrupt, IsNextStep}

-- the VCPUs of the guest that a line names
abbrev pub vcpus_at : List Planned → Task → List VcpuPlan
vcpus_at plans (goes line) = vcpus_of plans (guest_name line.asked)
vcpus_at plans task = []

-- the reply to a line that is no command
abbrev pub bad_reply : Task → Reply
bad_reply (tells line why) = reply.Bad (refusal_of why)
bad_reply task = reply.Rest

-- what a terminal says of a step of a task
abbrev pub Told : List Planned → Present → (lines : ℕ) → Step → Reply → Carry → Type 0
Told plans p lines (step.Bad x) r c = r ≡ bad_reply p.task
Told plans p lines (step.Rest x) r c = r ≡ reply.Rest
Told plans p lines (step.Run x) r c = Asks plans p lines (step.Run x) r c
Told plans p lines (step.Ls x) r c = Unit {0}
Told plans p lines (step.Cat x) r c = Unit {0}
Told plans p lines (step.Dts x) r c = Unit {0}
Told plans p lines (step.Mkdir x) r c = Unit {0}
Told plans p lines (step.Rm x) r c = Unit {0}
Told plans p lines (step.Write x) r c = Unit {0}
Told plans p lines (step.Asm x) r c = Unit {0}
Told plans p lines (step.Name x) r c = c.stopped ≡ refusal_for (planned plans x.name)
Told plans p lines (step.Stage x) r c = Unit {0}
Told plans p lines (step.Add x) r c = (c.row ≡ row_of plans x.name x.region) × (c.plan ≡ region_of plans x.name x.region)
Told plans p lines (step.Drop x) r c = c.row ≡ row_of plans x.name x.region
Told plans p lines (step.Devreset x) r c = c.row ≡ row_of plans x.name x.region
Told plans p lines (step.Vadd x) r c = c.vcpu ≡ vcpu_given (vcpus_at plans p.task) x.vcpu
Told plans p lines (step.Vdrop x) r c = Unit {0}
Told plans p lines (step.Kick x) r c = Unit {0}
Told plans p lines (step.Resume x) r c = Unit {0}
Told plans p lines (step.Pause x) r c = Unit {0}
Told plans p lines (step.Halt x) r c = Unit {0}
Told plans p lines (step.Reset x) r c = Unit {0}
Told plans p lines (step.Look x) r c = Unit {0}
Told plans p lines st r c = ⊥

-- the steps that commands of one step ask for
abbrev is_asked : Step → Bool
is_asked (step.Ls x) = true
is_asked (step.Cat x) = true
is_asked (step.Dts x) = true
is_asked (step.Run x) = true
is_asked (step.Mkdir x) = true
is_asked (step.Rm x) = true
is_asked (step.Write x) = true
is_asked (step.Asm x) = true
is_asked st = false

abbrev IsWork : Work → Type 0
IsWork (once asked) = is_asked asked ≡ true
IsWork (several asked) = Unit {0}

work-asked : (c : Command) → IsWork (work_of c)
work-asked (command.VfsLs path) = refl
work-asked (command.VfsCat path) = refl
work-asked (command.VfsDts path) = refl
work-asked (command.VfsMkdir path) = refl
work-asked (command.VfsRm path) = refl
work-asked (command.VfsWrite path text) = refl
work-asked (command.VfsAsm source target) = refl
work-asked (command.VfsRun path) = refl
work-asked (command.TermRest count) = tt

-- none of them shows a generation
shows-none : (asked : Step) (given : Option Generation) → is_asked asked ≡ true → showing given asked ≡ asked
shows-none (step.Ls x) given h = refl
shows-none (step.Cat x) given h = refl
shows-none (step.Dts x) given h = refl
shows-none (step.Run x) given h = refl
shows-none (step.Mkdir x) given h = refl
shows-none (step.Rm x) given h = refl
shows-none (step.Write x) given h = refl
shows-none (step.Asm x) given h = refl
shows-none st given h = absurd (false≢true h)

told-asked : (plans : List Planned) (p : Present) (lines : ℕ) (st : Step) (r : Reply) (c : Carry) → is_asked st ≡ true → Asks plans p lines st r c → Told plans p lines st r c
told-asked plans p lines (step.Ls x) r c asked h = tt
told-asked plans p lines (step.Cat x) r c asked h = tt
told-asked plans p lines (step.Dts x) r c asked h = tt
told-asked plans p lines (step.Run x) r c asked h = h
told-asked plans p lines (step.Mkdir x) r c asked h = tt
told-asked plans p lines (step.Rm x) r c asked h = tt
told-asked plans p lines (step.Write x) r c asked h = tt
told-asked plans p lines (step.Asm x) r c asked h = tt
told-asked plans p lines st r c asked h = absurd (false≢true asked)

-- the steps that lines of several have
abbrev is_lines : Step → Bool
is_lines (step.Rest x) = true
is_lines (step.Name x) = true
is_lines (step.Stage x) = true
is_lines (step.Add x) = true
is_lines (step.Drop x) = true
is_lines (step.Devreset x) = true
is_lines (step.Vadd x) = true
is_lines (step.Vdrop x) = true
is_lines (step.Kick x) = true
is_lines (step.Resume x) = true
is_lines (step.Pause x) = true
is_lines (step.Halt x) = true
is_lines (step.Reset x) = true
is_lines (step.Look x) = true
is_lines st = false

ask-lines : (l : LineState) (given : Option Generation) (a : Ask) → is_lines (step_of l given a) ≡ true
ask-lines l given rest = refl
ask-lines l given (look vcpu) = refl
ask-lines l given claim = refl
ask-lines l given (turn from to) = refl
ask-lines l given (add row) = refl
ask-lines l given (drop stage row) = refl
ask-lines l given (add_vcpu index) = refl
ask-lines l given (drop_vcpu index) = refl
ask-lines l given (change kick index) = refl
ask-lines l given (change resume index) = refl
ask-lines l given (change pause index) = refl
ask-lines l given (change halt index) = refl
ask-lines l given (change reset index) = refl
ask-lines l given (reset_device row) = refl

-- the step of a line is that of its next ask
pub record IsOfAsk (l : LineState) (given : Option Generation) (st : Step) : Type 0 where
  pub ask : Ask
  pub next : first (left l.place) ≡ Some ask
  pub is : st ≡ step_of l given ask

same-some : {A : Type 0} (x y : A) → Some x ≡ Some y → x ≡ y
same-some x y e = cc

of-ask : (l : LineState) (given : Option Generation) (st : Step) (next : Option Ask) → first (left l.place) ≡ next → step_for l given next ≡ Some st → IsOfAsk l given st
of-ask l given st None is h = absurd (cc h)
of-ask l given st (Some ask) is h = record { ask = ask; next = is; is = sym (same-some (step_of l given ask) st h) }

pub line-ask : (l : LineState) (given : Option Generation) (st : Step) → next_step l given ≡ Some st → IsOfAsk l given st
line-ask l given st h = of-ask l given st (first (left l.place)) refl h

told-lines : (plans : List Planned) (p : Present) (l : LineState) (lines : ℕ) (st : Step) (r : Reply) (c : Carry) → p.task ≡ goes l → is_lines st ≡ true → Goes plans l st r c → Told plans p lines st r c
told-lines plans p l lines (step.Rest x) r c task is h = h
told-lines plans p l lines (step.Name x) r c task is h = h
told-lines plans p l lines (step.Stage x) r c task is h = tt
told-lines plans p l lines (step.Add x) r c task is h = h
told-lines plans p l lines (step.Drop x) r c task is h = h
told-lines plans p l lines (step.Devreset x) r c task is h = h
told-lines plans p l lines (step.Vadd x) r c task is h = h ∙ ap (λ (t : Task). vcpu_given (vcpus_at plans t) x.vcpu) (sym task)
told-lines plans p l lines (step.Vdrop x) r c task is h = tt
told-lines plans p l lines (step.Kick x) r c task is h = tt
told-lines plans p l lines (step.Resume x) r c task is h = tt
told-lines plans p l lines (step.Pause x) r c task is h = tt
told-lines plans p l lines (step.Halt x) r c task is h = tt
told-lines plans p l lines (step.Reset x) r c task is h = tt
told-lines plans p l lines (step.Look x) r c task is h = tt
told-lines plans p l lines st r c task is h = absurd (false≢true is)

-- a task whose one step is that of a command
abbrev IsTask : Task → Type 0
IsTask (makes asked) = is_asked asked ≡ true
IsTask (goes l) = Unit {0}
IsTask (tells line why) = Unit {0}

told-task : (plans : List Planned) (p : Present) (lines : ℕ) (task : Task) (st : Step) (r : Reply) (c : Carry) → p.task ≡ task → IsTask task → FitsTask plans p lines task st r c → Told plans p lines st r c
told-task plans p lines (makes asked) st r c is work h =
    let same : st ≡ asked = h.0 ∙ shows-none asked (shown_in st) work in
    told-asked plans p lines st r c (ap is_asked same ∙ work) h.1
told-task plans p lines (goes l) st r c is work h =
    let a = line-ask l (shown_in st) st h.0 in
    told-lines plans p l lines st r c is (ap is_lines a.is ∙ ask-lines l (shown_in st) a.ask) h.1
told-task plans p lines (tells text why) st r c is work h =
    subst (λ (z : Step). Told plans p lines z r c) (sym h.0) (h.1 ∙ ap bad_reply (sym is))

-- what a session is at has such a task
abbrev pub IsWhole : Option Present → Type 0
IsWhole None = Unit {0}
IsWhole (Some p) = IsTask p.task

task-whole : (plans : List Planned) (w : Work) → IsWork w → IsTask (task_for plans w)
task-whole plans (once asked) h = h
task-whole plans (several asked) h = tt

read-whole : (plans : List Planned) (text : List ℕ) (read : Result Command WordsRefusal) → IsTask (task_of plans text read)
read-whole plans text (Ok c) = task-whole plans (work_of c) (work-asked c)
read-whole plans text (Err why) = tt

first-whole : (plans : List Planned) (next : Option Begun) → IsWhole (first_of plans next)
first-whole plans None = tt
first-whole plans (Some b) = read-whole plans b.line (said b.line)

with-whole : (plans : List Planned) (l : Option LineState) (s : Session) → IsWhole (present_with plans l s)
with-whole plans None s = first-whole plans (begun s)
with-whole plans (Some l) s = tt

pub present-whole : (plans : List Planned) (s : Session) → IsWhole (present plans s)
present-whole plans s = with-whole plans s.line s

-- what a terminal says of a step that it owes, or of one of what it is at
abbrev pub Says : List Planned → Option Present → (owed : List Step) → (lines : ℕ) → Step → Reply → Carry → Type 0
Says plans p (due ∷ owed) lines st r c = is_interrupt st ≡ true
Says plans None [] lines st r c = ⊥
Says plans (Some p) [] lines st r c = Told plans p lines st r c

says-with : (plans : List Planned) (p : Option Present) (lines : ℕ) (st : Step) (r : Reply) (c : Carry) → IsWhole p → FitsPresent plans lines p st r c → Says plans p [] lines st r c
says-with plans None lines st r c whole h = absurd h
says-with plans (Some p) lines st r c whole h = told-task plans p lines p.task st r c refl whole h

pub says : (t : TerminalState) (owed : List Step) (st : Step) (r : Reply) (c : Carry) → IsNextStep t owed st r c → Says t.plans (present t.plans t.session) owed t.session.lines st r c
says t (due ∷ owed) st r c h = h.1
says t [] st r c h = says-with t.plans (present t.plans t.session) t.session.lines st r c (present-whole t.plans t.session) h

-- the same step, where the generations shown are those that the step names anyway
abbrev pub Same : (Step → Option Generation) → Step → Step → Type 0
Same given st su = (shown_in st ≡ given st) × (shown_in su ≡ given su)

-- two steps of a line are one where what the directory gives doesn't depend on what is shown
module _ (given : Step → Option Generation) (blind : (l : LineState) (one other : Option Generation) (a : Ask) → given (step_of l one a) ≡ given (step_of l other a)) where
  line-once : (l : LineState) (st su : Step) → Same given st su → (a : IsOfAsk l (shown_in st) st) (b : IsOfAsk l (shown_in su) su) → st ≡ su
  line-once l st su shown a b =
      let asks : a.ask ≡ b.ask = same-some a.ask b.ask (sym a.next ∙ b.next) in
      let one : shown_in st ≡ given (step_of l None a.ask) = shown.0 ∙ ap given a.is ∙ blind l (shown_in st) None a.ask in
      let other : shown_in su ≡ given (step_of l None b.ask) = shown.1 ∙ ap given b.is ∙ blind l (shown_in su) None b.ask in
      let shows : shown_in st ≡ shown_in su = one ∙ ap (λ (k : Ask). given (step_of l None k)) asks ∙ sym other in
      a.is ∙ ap (λ (g : Option Generation). step_of l g a.ask) shows ∙ ap (step_of l (shown_in su)) asks ∙ sym b.is

  task-once : (plans : List Planned) (p : Present) (lines : ℕ) (task : Task) (st su : Step) (r q : Reply) (c d : Carry) → IsTask task → Same given st su
      → FitsTask plans p lines task st r c → FitsTask plans p lines task su q d → st ≡ su
  task-once plans p lines (makes asked) st su r q c d work shown h k =
      h.0 ∙ shows-none asked (shown_in st) work ∙ sym (k.0 ∙ shows-none asked (shown_in su) work)
  task-once plans p lines (goes l) st su r q c d work shown h k = line-once l st su shown (line-ask l (shown_in st) st h.0) (line-ask l (shown_in su) su k.0)
  task-once plans p lines (tells text why) st su r q c d work shown h k = h.0 ∙ sym k.0

  present-once : (plans : List Planned) (p : Option Present) (lines : ℕ) (st su : Step) (r q : Reply) (c d : Carry) → IsWhole p → Same given st su
      → FitsPresent plans lines p st r c → FitsPresent plans lines p su q d → st ≡ su
  present-once plans None lines st su r q c d whole shown h k = absurd h
  present-once plans (Some p) lines st su r q c d whole shown h k = task-once plans p lines p.task st su r q c d whole shown h k

  -- a terminal has one next step
  pub next-step : (t : TerminalState) (owed : List Step) (st su : Step) (r q : Reply) (c d : Carry) → Same given st su
      → IsNextStep t owed st r c → IsNextStep t owed su q d → st ≡ su
  next-step t (due ∷ owed) st su r q c d shown h k = h.0 ∙ sym k.0
  next-step t [] st su r q c d shown h k =
      present-once t.plans (present t.plans t.session) t.session.lines st su r q c d (present-whole t.plans t.session) shown h k

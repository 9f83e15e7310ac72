-- A history has one report.
use Rattle.std.proofs.Common.{◌≡◌, ℕ, ◌+◌, Bool, List, [], ◌∷◌, ◌++◌, refl, sym, ap, ◌∙◌}
use Rattle.std.specs.Prelude.{Option, None, Some, Result, Ok, Err, codes}
use Rattle.hv_dtree.specs.declared.node.Node.{Node}
use Rattle.hv_dts.specs.Printed.{tree_text}
use Rattle.hv_dts.proofs.Unique.{tree_same}
use Rattle.hv_event.specs.declared.event.Event.{Event}
use Rattle.hv_refusal.specs.declared.refusal.Refusal.{Refusal}
use Rattle.hv_answer.specs.declared.reply.Reply.{Reply}
use Rattle.hv_answer.specs.declared.reply.Reply.TheVariants as reply
use Rattle.hv_model.specs.Origin.{Origin, terminals}
use Rattle.hv_step.specs.declared.step.Step.{Step}
use Rattle.hv_step.specs.declared.step.Step.TheVariants as step
use Rattle.hv_model.specs.Plans.{Planned}
use Rattle.hv_model.specs.Report.{AreTranscripts, events_of, told_at_start, report_with, IsReport}
use Rattle.hv_model.specs.Session.{begun, Task, makes, goes, tells, Present, present}
use Rattle.hv_model.specs.Transcript.{line, ShowsSource, ShowsReply, ShowsStep, ShowsTask, ShowsPresent, ShowsEvent, Telling, told_after, changed_by, begin_shown, IsTranscript, asked_among}

-- a source stands for one tree, which is shown in one way
source-once : (r : Result (List ℕ) Refusal) (a b : List ℕ) → ShowsSource r a → ShowsSource r b → a ≡ b
source-once (Ok source) a b x y =
    x.text_is ∙ ap (λ (tree : Node). tree_text tree ++ line (codes "< ok")) (tree_same source x.tree y.tree x.stands y.stands) ∙ sym y.text_is
source-once (Err why) a b x y = x ∙ sym y

-- a reply is shown in one way
reply-once : (r : Reply) (a b : List ℕ) → ShowsReply r a → ShowsReply r b → a ≡ b
reply-once (reply.Bad why) a b x y = x ∙ sym y
reply-once (reply.Ls r) a b x y = x ∙ sym y
reply-once (reply.Cat r) a b x y = x ∙ sym y
reply-once (reply.Dts r) a b x y = source-once r a b x y
reply-once (reply.Run r) a b x y = x ∙ sym y
reply-once (reply.Mkdir r) a b x y = x ∙ sym y
reply-once (reply.Rm r) a b x y = x ∙ sym y
reply-once (reply.Write r) a b x y = x ∙ sym y
reply-once (reply.Asm r) a b x y = x ∙ sym y
reply-once (reply.Guests guests) a b x y = x ∙ sym y
reply-once (reply.Add r) a b x y = x ∙ sym y
reply-once (reply.Drop r) a b x y = x ∙ sym y
reply-once (reply.Load r) a b x y = x ∙ sym y
reply-once (reply.Feed r) a b x y = x ∙ sym y
reply-once (reply.Output r) a b x y = x ∙ sym y
reply-once (reply.Kick r) a b x y = x ∙ sym y
reply-once (reply.Resume r) a b x y = x ∙ sym y
reply-once (reply.Pause r) a b x y = x ∙ sym y
reply-once (reply.Halt r) a b x y = x ∙ sym y
reply-once (reply.Reset r) a b x y = x ∙ sym y
reply-once r a b x y = absurd x

-- and so is a step
step-once : (plans : List Planned) (st : Step) (r : Reply) (a b : List ℕ) → ShowsStep plans st r a → ShowsStep plans st r b → a ≡ b
step-once plans (step.Regions s) (reply.Regions r) a b x y = x ∙ sym y
step-once plans (step.Mem s) (reply.Mem r) a b x y = x ∙ sym y
step-once plans (step.Look s) (reply.Look look) a b x y = x ∙ sym y
step-once plans st r a b x y = reply-once r a b x y

-- and what comes of a task
task-once : (plans : List Planned) (task : Task) (changed : ℕ) (st : Step) (r : Reply) (a b : List ℕ)
    → ShowsTask plans task changed st r a → ShowsTask plans task changed st r b → a ≡ b
task-once plans (makes asked) changed st r a b x y = step-once plans st r a b x y
task-once plans (goes l) changed st r a b x y = x ∙ sym y
task-once plans (tells l why) changed st r a b x y = x ∙ sym y

present-once : (plans : List Planned) (p : Option Present) (changed : ℕ) (st : Step) (r : Reply) (a b : List ℕ)
    → ShowsPresent plans p changed st r a → ShowsPresent plans p changed st r b → a ≡ b
present-once plans None changed st r a b x y = absurd x
present-once plans (Some p) changed st r a b x y = task-once plans p.task changed st r a b x y

-- and an event
event-once : (plans : List Planned) (t : Telling) (e : Event) (a b : List ℕ) → ShowsEvent plans t e a → ShowsEvent plans t e b → a ≡ b
event-once plans t e a b x y =
    let behind = present-once plans (present plans t.session) (t.changed + changed_by e.reply) e.step e.reply x.behind y.behind x.shows y.shows in
    x.text_is ∙ ap (λ (later : List ℕ). begin_shown t.session.line (begun t.session) ++ later) behind ∙ sym y.text_is

-- events have one transcript
transcript-once : (plans : List Planned) (t : Telling) (H : List Event) (a b : List ℕ) → IsTranscript plans t H a → IsTranscript plans t H b → a ≡ b
transcript-once plans t [] a b x y = x ∙ sym y
transcript-once plans t (e ∷ es) a b x y =
    let here = event-once plans t e x.0 y.0 x.3 y.3 in
    let later = transcript-once plans (told_after plans t e) es x.1 y.1 x.4 y.4 in
    x.2 ∙ (λ i. here i ++ later i) ∙ sym y.2

-- and so have terminals
transcripts-once : (O : Origin) (H : List Event) (ts : List ℕ) (a b : List (List ℕ)) → AreTranscripts O H ts a → AreTranscripts O H ts b → a ≡ b
transcripts-once O H [] [] [] x y = refl
transcripts-once O H [] [] (c ∷ b) x y = absurd y
transcripts-once O H [] (c ∷ a) b x y = absurd x
transcripts-once O H (t ∷ ts) [] b x y = absurd x
transcripts-once O H (t ∷ ts) (c ∷ a) [] x y = absurd y
transcripts-once O H (t ∷ ts) (c ∷ a) (d ∷ b) x y =
    let head = transcript-once O.opening.plans (told_at_start O t) (asked_among (events_of t H)) c d x.0 y.0 in
    let tail = transcripts-once O H ts a b x.1 y.1 in
    (λ i. head i ∷ tail i)

-- so a history has one report
pub report-once : (O : Origin) (H : List Event) (threads brief : Bool) (a b : List ℕ) → IsReport O H threads brief a → IsReport O H threads brief b → a ≡ b
report-once O H threads brief a b x y =
    x.text_is
    ∙ ap (λ (texts : List (List ℕ)). report_with texts O H threads brief) (transcripts-once O H terminals x.transcripts y.transcripts x.shown y.shown)
    ∙ sym y.text_is

-- The forms of the words of steps and replies: no name has a space, a reply has a first word, and no first word of a
-- VCPU's reply could belong to its step.
use Rattle.std.proofs.Common.{◌≡◌, ◌≢◌, ℕ, List, [], ◌∷◌, refl, sym, ap, ◌∙◌, arith, get_or}
use Rattle.std.specs.Prelude.{codes, Result, Ok, Err, Option, Some, None}
use Rattle.hv_text.specs.Front.{IsFree}
use Rattle.hv_data.proofs.DataLemmas.{free_by_test}
use Rattle.hv_name.specs.declared.name.StepName.{StepName}
use Rattle.hv_name.specs.declared.name.StepName.TheVariants as name
use Rattle.hv_name.specs.StepName.{name_word}
use Rattle.hv_refusal.specs.declared.refusal.Refusal.{Refusal}
use Rattle.hv_step.specs.declared.step.ByGuest.{ByGuest}
use Rattle.hv_step.specs.declared.step.Step.{Step}
use Rattle.hv_step.specs.declared.step.Step.TheVariants as step
use Rattle.hv_step.specs.Words.{name_of, IsOver, EndsBefore}
use Rattle.hv_answer.specs.declared.reply.Reply.{Reply}
use Rattle.hv_answer.specs.declared.reply.Reply.TheVariants as reply
use Rattle.hv_answer.specs.Payload.{no_words, bytes_words, names_words, windows_words, number_words, changes_words, generation_words, ticked_words, fetched_words, accessed_words, moved_words, sampled_words, pinned_words, maybe_words}
use Rattle.hv_answer.specs.Reply.{given_words, reply_words, IsReplyOf}
use Rattle.hv_event.specs.Words.{arrow}

-- no name of a step has a space
pub name_free : (n : StepName) → IsFree 32 (name_word n)
name_free name.Bad = free_by_test 32 (name_word name.Bad) refl
name_free name.Rest = free_by_test 32 (name_word name.Rest) refl
name_free name.Ls = free_by_test 32 (name_word name.Ls) refl
name_free name.Cat = free_by_test 32 (name_word name.Cat) refl
name_free name.Dts = free_by_test 32 (name_word name.Dts) refl
name_free name.Run = free_by_test 32 (name_word name.Run) refl
name_free name.Mkdir = free_by_test 32 (name_word name.Mkdir) refl
name_free name.Rm = free_by_test 32 (name_word name.Rm) refl
name_free name.Write = free_by_test 32 (name_word name.Write) refl
name_free name.Asm = free_by_test 32 (name_word name.Asm) refl
name_free name.Guests = free_by_test 32 (name_word name.Guests) refl
name_free name.Name = free_by_test 32 (name_word name.Name) refl
name_free name.Stage = free_by_test 32 (name_word name.Stage) refl
name_free name.Add = free_by_test 32 (name_word name.Add) refl
name_free name.Drop = free_by_test 32 (name_word name.Drop) refl
name_free name.Regions = free_by_test 32 (name_word name.Regions) refl
name_free name.Load = free_by_test 32 (name_word name.Load) refl
name_free name.Mem = free_by_test 32 (name_word name.Mem) refl
name_free name.Devreset = free_by_test 32 (name_word name.Devreset) refl
name_free name.Feed = free_by_test 32 (name_word name.Feed) refl
name_free name.Output = free_by_test 32 (name_word name.Output) refl
name_free name.Vadd = free_by_test 32 (name_word name.Vadd) refl
name_free name.Vdrop = free_by_test 32 (name_word name.Vdrop) refl
name_free name.Kick = free_by_test 32 (name_word name.Kick) refl
name_free name.Resume = free_by_test 32 (name_word name.Resume) refl
name_free name.Pause = free_by_test 32 (name_word name.Pause) refl
name_free name.Halt = free_by_test 32 (name_word name.Halt) refl
name_free name.Reset = free_by_test 32 (name_word name.Reset) refl
name_free name.Look = free_by_test 32 (name_word name.Look) refl
name_free name.Tick = free_by_test 32 (name_word name.Tick) refl
name_free name.Idle = free_by_test 32 (name_word name.Idle) refl
name_free name.Dispatch = free_by_test 32 (name_word name.Dispatch) refl
name_free name.Preempt = free_by_test 32 (name_word name.Preempt) refl
name_free name.Leave = free_by_test 32 (name_word name.Leave) refl
name_free name.Take = free_by_test 32 (name_word name.Take) refl
name_free name.Fetch = free_by_test 32 (name_word name.Fetch) refl
name_free name.Access = free_by_test 32 (name_word name.Access) refl
name_free name.Fault = free_by_test 32 (name_word name.Fault) refl
name_free name.Balance = free_by_test 32 (name_word name.Balance) refl
name_free name.Sample = free_by_test 32 (name_word name.Sample) refl
name_free name.Pin = free_by_test 32 (name_word name.Pin) refl

-- words have a first one
abbrev pub HaveFirst : List (List ℕ) → Type 0
HaveFirst words = (w : List ℕ) × (ws : List (List ℕ)) × (words ≡ w ∷ ws)

-- what is given or refused has one
given_first : {A : Type 0} (shown : A → List (List ℕ)) (answer : Result A Refusal) → HaveFirst (given_words shown answer)
given_first shown (Ok given) = (codes "ok", shown given, refl)
given_first shown (Err why) = (codes "refused", _, refl)

-- what may be missing has one where what is there has one
maybe_first : {A : Type 0} (missing : List ℕ) (shown : A → List (List ℕ)) (answer : Option A) → ((a : A) → HaveFirst (shown a)) → HaveFirst (maybe_words missing shown answer)
maybe_first missing shown None first = (missing, [], refl)
maybe_first missing shown (Some given) first = first given

-- a reply has a first word
pub reply_first : (r : Reply) → HaveFirst (reply_words r)
reply_first (reply.Bad why) = (codes "refused", _, refl)
reply_first reply.Rest = (codes "ok", [], refl)
reply_first (reply.Ls answer) = given_first names_words answer
reply_first (reply.Cat answer) = given_first bytes_words answer
reply_first (reply.Dts answer) = given_first bytes_words answer
reply_first (reply.Run answer) = given_first bytes_words answer
reply_first (reply.Mkdir answer) = given_first no_words answer
reply_first (reply.Rm answer) = given_first no_words answer
reply_first (reply.Write answer) = given_first no_words answer
reply_first (reply.Asm answer) = given_first number_words answer
reply_first (reply.Guests guests) = (codes "ok", _, refl)
reply_first (reply.Name answer) = given_first generation_words answer
reply_first (reply.Stage answer) = given_first no_words answer
reply_first (reply.Add answer) = given_first changes_words answer
reply_first (reply.Drop answer) = given_first changes_words answer
reply_first (reply.Regions answer) = given_first windows_words answer
reply_first (reply.Load answer) = given_first number_words answer
reply_first (reply.Mem answer) = given_first bytes_words answer
reply_first (reply.Devreset answer) = given_first changes_words answer
reply_first (reply.Feed answer) = given_first changes_words answer
reply_first (reply.Output answer) = given_first bytes_words answer
reply_first (reply.Vadd answer) = given_first no_words answer
reply_first (reply.Vdrop answer) = given_first no_words answer
reply_first (reply.Kick answer) = given_first no_words answer
reply_first (reply.Resume answer) = given_first no_words answer
reply_first (reply.Pause answer) = given_first no_words answer
reply_first (reply.Halt answer) = given_first no_words answer
reply_first (reply.Reset answer) = given_first no_words answer
reply_first (reply.Tick answer) = maybe_first (codes "none") ticked_words answer (λ given. (_, _, refl))
reply_first reply.Idle = (codes "ok", [], refl)
reply_first (reply.Dispatch answer) = given_first number_words answer
reply_first reply.Preempt = (codes "ok", [], refl)
reply_first (reply.Look look) = (codes "ok", _, refl)
reply_first (reply.Leave answer) = (_, [], refl)
reply_first (reply.Take answer) = (_, [], refl)
reply_first (reply.Fetch answer) = maybe_first (codes "noexec") fetched_words answer (λ given. (_, _, refl))
reply_first (reply.Access answer) = maybe_first (codes "denied") accessed_words answer (λ given. (_, _, refl))
reply_first (reply.Fault answer) = (_, [], refl)
reply_first (reply.Balance answer) = maybe_first (codes "none") moved_words answer (λ given. (_, _, refl))
reply_first (reply.Sample answer) = maybe_first (codes "gone") sampled_words answer (λ given. (_, _, refl))
reply_first (reply.Pin answer) = maybe_first (codes "gone") pinned_words answer (λ given. (_, _, refl))

-- neither `ok` nor `refused` is a generation's word
not_born : (first behind : List ℕ) → get_or first 0 0 ≢ 64 → first ≢ 64 ∷ behind
not_born first behind other is = other (ap (λ (w : List ℕ). get_or w 0 0) is)

answer_ends : (answer : Result (Unit {0}) Refusal) (first behind : List ℕ) (rest : List (List ℕ)) → arrow ∷ given_words no_words answer ≢ first ∷ (64 ∷ behind) ∷ rest
answer_ends (Ok done) first behind rest is = not_born (codes "ok") behind (λ e. omega (arith, e)) (cc is)
answer_ends (Err why) first behind rest is = not_born (codes "refused") behind (λ e. omega (arith, e)) (cc is)

-- a VCPU's step ends before the arrow
over : (guest : Option ByGuest) (r : Reply) (make : Result (Unit {0}) Refusal → Reply) → ((answer : Result (Unit {0}) Refusal) → reply_words (make answer) ≡ given_words no_words answer)
    → (answer : Result (Unit {0}) Refusal) → r ≡ make answer → IsOver guest (arrow ∷ reply_words r)
over (Some g) r make words answer is = tt
over None r make words answer is = λ first behind rest e.
    answer_ends answer first behind rest (sym (ap (λ (ws : List (List ℕ)). arrow ∷ ws) (ap reply_words is ∙ words answer)) ∙ e)

pub ends_before_arrow : (s : Step) (r : Reply) → IsReplyOf (name_of s) r → EndsBefore s (arrow ∷ reply_words r)
ends_before_arrow (step.Kick s) r is = over s.guest r reply.Kick (λ answer. refl) is.0 is.1
ends_before_arrow (step.Resume s) r is = over s.guest r reply.Resume (λ answer. refl) is.0 is.1
ends_before_arrow (step.Pause s) r is = over s.guest r reply.Pause (λ answer. refl) is.0 is.1
ends_before_arrow (step.Halt s) r is = over s.guest r reply.Halt (λ answer. refl) is.0 is.1
ends_before_arrow (step.Reset s) r is = over s.guest r reply.Reset (λ answer. refl) is.0 is.1
ends_before_arrow s r is = tt

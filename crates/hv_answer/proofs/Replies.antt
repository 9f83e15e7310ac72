-- What holds of the words of replies.
use Rattle.std.proofs.Common.{◌≡◌, ℕ, ◌<◌, List, [], ◌∷◌, length, refl, sym, ap, subst, ◌∙◌, arith}
use Rattle.std.specs.Prelude.{codes, Option, Result}
use Rattle.hv_kinds.specs.declared.changes.SignalChanges.{SignalChanges}
use Rattle.hv_kinds.specs.declared.generation.Generation.{Generation}
use Rattle.hv_kinds.specs.declared.state.State.{State}
use Rattle.hv_data.specs.Text.{address_text}
use Rattle.hv_data.specs.Written.{IsNumber, AreBytes, AreListedNames, AreChanges, IsState, IsAny}
use Rattle.hv_data.specs.Data.{HaveNoSpace}
use Rattle.hv_data.proofs.DataLemmas.{free_by_test}
use Rattle.hv_listing.specs.declared.guest.ListedGuest.{ListedGuest}
use Rattle.hv_listing.specs.declared.window.ListedWindow.{ListedWindow}
use Rattle.hv_listing.specs.Listing.{AreGuests, AreWindows}
use Rattle.hv_look.specs.declared.look.Look.{Look}
use Rattle.hv_look.specs.Look.{IsLook, look_words}
use Rattle.hv_look.proofs.Looks.{same_look, look_free}
use Rattle.hv_name.specs.declared.name.StepName.{StepName}
use Rattle.hv_name.specs.declared.name.StepName.TheVariants as name
use Rattle.hv_refusal.specs.declared.refusal.Refusal.{Refusal}
use Rattle.hv_answer.specs.declared.reply.Fetched.{Fetched}
use Rattle.hv_answer.specs.declared.reply.Outcome.{Outcome}
use Rattle.hv_answer.specs.declared.reply.Outcome.TheVariants as outcome
use Rattle.hv_answer.specs.declared.reply.Accessed.{Accessed}
use Rattle.hv_answer.specs.declared.reply.Moved.{Moved}
use Rattle.hv_answer.specs.declared.reply.Sampled.{Sampled}
use Rattle.hv_answer.specs.declared.reply.Pinned.{Pinned}
use Rattle.hv_answer.specs.declared.reply.Reply.{Reply}
use Rattle.hv_answer.specs.declared.reply.Reply.TheVariants as reply
use Rattle.hv_answer.specs.Payload.{no_words, bytes_words, names_words, guests_words, windows_words, number_words, changes_words, generation_words, state_words, outcome_words, fetched_words}
use Rattle.hv_answer.specs.Payload.{accessed_words, moved_words, sampled_words, pinned_words, ticked_words, maybe_words}
use Rattle.hv_answer.specs.Payload.{IsNumber32, IsBorn, IsFetched, IsAccessed, IsMoved, IsSampled, IsMaybe}
use Rattle.hv_answer.specs.Refused.{MayRefuse}
use Rattle.hv_answer.specs.Reply.{refused_words, given_words, IsAnswer, reply_words, IsMade, IsReplyOf}
use Rattle.hv_answer.proofs.Laws.{Law, led_law, nothing_law, bytes_law, names_law, guests_law, windows_law, number_law, slice_law, changes_law, state_law, generation_law, ticked_law}
use Rattle.hv_answer.proofs.Laws.{accessed_law, moved_law, sampled_law, fetched_law, pinned_law, maybe_law, refused_law, given_law}

-- replies of one form with the same words are one, and their words have no space
record IsPlain (good : Reply → Type 0) : Type 0 where
  same : (r q : Reply) → good r → good q → reply_words r ≡ reply_words q → r ≡ q
  free : (r : Reply) → good r → HaveNoSpace (reply_words r)

-- what holds of what is given holds of the reply
made : (A : Type 0) (good : A → Type 0) (shown : A → List (List ℕ)) (make : A → Reply) → ((x : A) → reply_words (make x) ≡ shown x) → Law A good shown → IsPlain (IsMade make good)
made A good shown make words law = record {
  same = λ r q h k e.
      let shows : shown h.0 ≡ shown k.0 = sym (words h.0) ∙ sym (ap reply_words h.1) ∙ e ∙ ap reply_words k.1 ∙ words k.0 in
      h.1 ∙ ap make (law.same h.0 k.0 h.2 k.2 shows) ∙ sym k.1;
  free = λ r h. subst HaveNoSpace (sym (ap reply_words h.1 ∙ words h.0)) (law.free h.0 h.2);
}

-- a reply that tells nothing
alone : (whole : Reply) → reply_words whole ≡ codes "ok" ∷ [] → IsPlain (λ r. r ≡ whole)
alone whole words = record {
  same = λ r q h k e. h ∙ sym k;
  free = λ r h. subst HaveNoSpace (sym (ap reply_words h ∙ words)) (free_by_test 32 (codes "ok") refl, tt);
}

long_fetched : (f : Fetched) → 1 < length (fetched_words f)
long_fetched f = longer f.outcome
  where
    longer : (o : Outcome) → 1 < length (address_text f.word ∷ outcome_words o)
    longer outcome.Done = omega arith
    longer outcome.Wait = omega arith
    longer outcome.Access = omega arith
    longer (outcome.Trap c) = omega arith

look_law : Law Look IsLook (λ l. codes "ok" ∷ look_words l)
look_law = led_law Look IsLook look_words (codes "ok") refl (record { same = same_look; free = look_free })

-- the words of a step's replies
plain : (n : StepName) → IsPlain (IsReplyOf n)
plain name.Bad = made Refusal (MayRefuse name.Bad) refused_words reply.Bad (λ x. refl) (refused_law name.Bad)
plain name.Rest = alone reply.Rest refl
plain name.Ls = made (Result (List (List ℕ)) Refusal) (IsAnswer AreListedNames name.Ls) (given_words names_words) reply.Ls (λ x. refl) (given_law (List (List ℕ)) AreListedNames names_words name.Ls names_law)
plain name.Cat = made (Result (List ℕ) Refusal) (IsAnswer AreBytes name.Cat) (given_words bytes_words) reply.Cat (λ x. refl) (given_law (List ℕ) AreBytes bytes_words name.Cat bytes_law)
plain name.Dts = made (Result (List ℕ) Refusal) (IsAnswer AreBytes name.Dts) (given_words bytes_words) reply.Dts (λ x. refl) (given_law (List ℕ) AreBytes bytes_words name.Dts bytes_law)
plain name.Run = made (Result (List ℕ) Refusal) (IsAnswer AreBytes name.Run) (given_words bytes_words) reply.Run (λ x. refl) (given_law (List ℕ) AreBytes bytes_words name.Run bytes_law)
plain name.Mkdir = made (Result (Unit {0}) Refusal) (IsAnswer IsAny name.Mkdir) (given_words no_words) reply.Mkdir (λ x. refl) (given_law (Unit {0}) IsAny no_words name.Mkdir nothing_law)
plain name.Rm = made (Result (Unit {0}) Refusal) (IsAnswer IsAny name.Rm) (given_words no_words) reply.Rm (λ x. refl) (given_law (Unit {0}) IsAny no_words name.Rm nothing_law)
plain name.Write = made (Result (Unit {0}) Refusal) (IsAnswer IsAny name.Write) (given_words no_words) reply.Write (λ x. refl) (given_law (Unit {0}) IsAny no_words name.Write nothing_law)
plain name.Asm = made (Result ℕ Refusal) (IsAnswer IsNumber name.Asm) (given_words number_words) reply.Asm (λ x. refl) (given_law ℕ IsNumber number_words name.Asm number_law)
plain name.Guests = made (List ListedGuest) AreGuests (λ g. codes "ok" ∷ guests_words g) reply.Guests (λ x. refl) (led_law (List ListedGuest) AreGuests guests_words (codes "ok") refl guests_law)
plain name.Name = made (Result Generation Refusal) (IsAnswer IsBorn name.Name) (given_words generation_words) reply.Name (λ x. refl) (given_law Generation IsBorn generation_words name.Name generation_law)
plain name.Stage = made (Result (Unit {0}) Refusal) (IsAnswer IsAny name.Stage) (given_words no_words) reply.Stage (λ x. refl) (given_law (Unit {0}) IsAny no_words name.Stage nothing_law)
plain name.Add = made (Result SignalChanges Refusal) (IsAnswer AreChanges name.Add) (given_words changes_words) reply.Add (λ x. refl) (given_law SignalChanges AreChanges changes_words name.Add changes_law)
plain name.Drop = made (Result SignalChanges Refusal) (IsAnswer AreChanges name.Drop) (given_words changes_words) reply.Drop (λ x. refl) (given_law SignalChanges AreChanges changes_words name.Drop changes_law)
plain name.Regions = made (Result (List ListedWindow) Refusal) (IsAnswer AreWindows name.Regions) (given_words windows_words) reply.Regions (λ x. refl) (given_law (List ListedWindow) AreWindows windows_words name.Regions windows_law)
plain name.Load = made (Result ℕ Refusal) (IsAnswer IsNumber name.Load) (given_words number_words) reply.Load (λ x. refl) (given_law ℕ IsNumber number_words name.Load number_law)
plain name.Mem = made (Result (List ℕ) Refusal) (IsAnswer AreBytes name.Mem) (given_words bytes_words) reply.Mem (λ x. refl) (given_law (List ℕ) AreBytes bytes_words name.Mem bytes_law)
plain name.Devreset = made (Result SignalChanges Refusal) (IsAnswer AreChanges name.Devreset) (given_words changes_words) reply.Devreset (λ x. refl) (given_law SignalChanges AreChanges changes_words name.Devreset changes_law)
plain name.Feed = made (Result SignalChanges Refusal) (IsAnswer AreChanges name.Feed) (given_words changes_words) reply.Feed (λ x. refl) (given_law SignalChanges AreChanges changes_words name.Feed changes_law)
plain name.Output = made (Result (List ℕ) Refusal) (IsAnswer AreBytes name.Output) (given_words bytes_words) reply.Output (λ x. refl) (given_law (List ℕ) AreBytes bytes_words name.Output bytes_law)
plain name.Vadd = made (Result (Unit {0}) Refusal) (IsAnswer IsAny name.Vadd) (given_words no_words) reply.Vadd (λ x. refl) (given_law (Unit {0}) IsAny no_words name.Vadd nothing_law)
plain name.Vdrop = made (Result (Unit {0}) Refusal) (IsAnswer IsAny name.Vdrop) (given_words no_words) reply.Vdrop (λ x. refl) (given_law (Unit {0}) IsAny no_words name.Vdrop nothing_law)
plain name.Kick = made (Result (Unit {0}) Refusal) (IsAnswer IsAny name.Kick) (given_words no_words) reply.Kick (λ x. refl) (given_law (Unit {0}) IsAny no_words name.Kick nothing_law)
plain name.Resume = made (Result (Unit {0}) Refusal) (IsAnswer IsAny name.Resume) (given_words no_words) reply.Resume (λ x. refl) (given_law (Unit {0}) IsAny no_words name.Resume nothing_law)
plain name.Pause = made (Result (Unit {0}) Refusal) (IsAnswer IsAny name.Pause) (given_words no_words) reply.Pause (λ x. refl) (given_law (Unit {0}) IsAny no_words name.Pause nothing_law)
plain name.Halt = made (Result (Unit {0}) Refusal) (IsAnswer IsAny name.Halt) (given_words no_words) reply.Halt (λ x. refl) (given_law (Unit {0}) IsAny no_words name.Halt nothing_law)
plain name.Reset = made (Result (Unit {0}) Refusal) (IsAnswer IsAny name.Reset) (given_words no_words) reply.Reset (λ x. refl) (given_law (Unit {0}) IsAny no_words name.Reset nothing_law)
plain name.Look = made Look IsLook (λ l. codes "ok" ∷ look_words l) reply.Look (λ x. refl) look_law
plain name.Tick = made (Option SignalChanges) (IsMaybe AreChanges) (maybe_words (codes "none") ticked_words) reply.Tick (λ x. refl) (maybe_law SignalChanges AreChanges ticked_words (codes "none") refl (λ x. omega arith) ticked_law)
plain name.Idle = alone reply.Idle refl
plain name.Dispatch = made (Result ℕ Refusal) (IsAnswer IsNumber32 name.Dispatch) (given_words number_words) reply.Dispatch (λ x. refl) (given_law ℕ IsNumber32 number_words name.Dispatch slice_law)
plain name.Preempt = alone reply.Preempt refl
plain name.Leave = made State IsState state_words reply.Leave (λ x. refl) state_law
plain name.Take = made ℕ IsNumber number_words reply.Take (λ x. refl) number_law
plain name.Fetch = made (Option Fetched) (IsMaybe IsFetched) (maybe_words (codes "noexec") fetched_words) reply.Fetch (λ x. refl) (maybe_law Fetched IsFetched fetched_words (codes "noexec") refl long_fetched fetched_law)
plain name.Access = made (Option Accessed) (IsMaybe IsAccessed) (maybe_words (codes "denied") accessed_words) reply.Access (λ x. refl) (maybe_law Accessed IsAccessed accessed_words (codes "denied") refl (λ x. omega arith) accessed_law)
plain name.Fault = made ℕ IsNumber number_words reply.Fault (λ x. refl) number_law
plain name.Balance = made (Option Moved) (IsMaybe IsMoved) (maybe_words (codes "none") moved_words) reply.Balance (λ x. refl) (maybe_law Moved IsMoved moved_words (codes "none") refl (λ x. omega arith) moved_law)
plain name.Sample = made (Option Sampled) (IsMaybe IsSampled) (maybe_words (codes "gone") sampled_words) reply.Sample (λ x. refl) (maybe_law Sampled IsSampled sampled_words (codes "gone") refl (λ x. omega arith) sampled_law)
plain name.Pin = made (Option Pinned) (IsMaybe IsAny) (maybe_words (codes "gone") pinned_words) reply.Pin (λ x. refl) (maybe_law Pinned IsAny pinned_words (codes "gone") refl (λ x. omega arith) pinned_law)

-- two replies of one step with the same words are one
pub same_reply : (n : StepName) (r q : Reply) → IsReplyOf n r → IsReplyOf n q → reply_words r ≡ reply_words q → r ≡ q
same_reply n r q h k e = (plain n).same r q h k e

-- no word of a reply has a space
pub reply_free : (n : StepName) (r : Reply) → IsReplyOf n r → HaveNoSpace (reply_words r)
reply_free n r h = (plain n).free r h

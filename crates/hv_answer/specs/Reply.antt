-- The words and the text of a reply.
use Rattle.std.specs.Prelude.{◌≡◌, ℕ, List, [], ◌∷◌, codes, Result, Ok, Err}
use Rattle.std.specs.List.{join_with_byte}
use Rattle.hv_data.specs.Written.{IsNumber, AreBytes, AreListedNames, IsState, AreChanges, IsAny}
use Rattle.hv_listing.specs.Listing.{AreGuests, AreWindows}
use Rattle.hv_look.specs.Look.{IsLook, look_words}
use Rattle.hv_name.specs.declared.name.StepName.{StepName}
use Rattle.hv_name.specs.declared.name.StepName.TheVariants as name
use Rattle.hv_refusal.specs.declared.refusal.Refusal.{Refusal}
use Rattle.hv_refusal.specs.Refusal.{refusal_words}
use Rattle.hv_answer.specs.declared.reply.Reply.{Reply}
use Rattle.hv_answer.specs.declared.reply.Reply.TheVariants as reply
use Rattle.hv_answer.specs.Payload.{no_words, bytes_words, names_words, guests_words, windows_words, number_words, changes_words, generation_words, state_words, fetched_words, accessed_words}
use Rattle.hv_answer.specs.Payload.{moved_words, sampled_words, pinned_words, ticked_words, maybe_words}
use Rattle.hv_answer.specs.Payload.{IsNumber32, IsBorn, IsFetched, IsAccessed, IsMoved, IsSampled, IsMaybe}
use Rattle.hv_answer.specs.Refused.{MayRefuse}

-- A refused step is answered by `refused` and why.
abbrev pub refused_words : Refusal → List (List ℕ)
refused_words why = codes "refused" ∷ refusal_words why

-- A step is answered by `ok` and what it gives, or it is refused.
abbrev pub given_words : {A : Type 0} → (A → List (List ℕ)) → Result A Refusal → List (List ℕ)
given_words shown (Ok given) = codes "ok" ∷ shown given
given_words shown (Err why) = refused_words why

-- A step gives something of a form, or is refused for one of its reasons.
abbrev pub IsAnswer : {A : Type 0} → (A → Type 0) → StepName → Result A Refusal → Type 0
IsAnswer good word (Ok given) = good given
IsAnswer good word (Err why) = MayRefuse word why

-- The words of a reply.
abbrev pub reply_words : Reply → List (List ℕ)
reply_words (reply.Bad why) = refused_words why
reply_words reply.Rest = codes "ok" ∷ []
reply_words (reply.Ls answer) = given_words names_words answer
reply_words (reply.Cat answer) = given_words bytes_words answer
reply_words (reply.Dts answer) = given_words bytes_words answer
reply_words (reply.Run answer) = given_words bytes_words answer
reply_words (reply.Mkdir answer) = given_words no_words answer
reply_words (reply.Rm answer) = given_words no_words answer
reply_words (reply.Write answer) = given_words no_words answer
reply_words (reply.Asm answer) = given_words number_words answer
reply_words (reply.Guests guests) = codes "ok" ∷ guests_words guests
reply_words (reply.Name answer) = given_words generation_words answer
reply_words (reply.Stage answer) = given_words no_words answer
reply_words (reply.Add answer) = given_words changes_words answer
reply_words (reply.Drop answer) = given_words changes_words answer
reply_words (reply.Regions answer) = given_words windows_words answer
reply_words (reply.Load answer) = given_words number_words answer
reply_words (reply.Mem answer) = given_words bytes_words answer
reply_words (reply.Devreset answer) = given_words changes_words answer
reply_words (reply.Feed answer) = given_words changes_words answer
reply_words (reply.Output answer) = given_words bytes_words answer
reply_words (reply.Vadd answer) = given_words no_words answer
reply_words (reply.Vdrop answer) = given_words no_words answer
reply_words (reply.Kick answer) = given_words no_words answer
reply_words (reply.Resume answer) = given_words no_words answer
reply_words (reply.Pause answer) = given_words no_words answer
reply_words (reply.Halt answer) = given_words no_words answer
reply_words (reply.Reset answer) = given_words no_words answer
reply_words (reply.Look look) = codes "ok" ∷ look_words look
reply_words (reply.Tick answer) = maybe_words (codes "none") ticked_words answer
reply_words reply.Idle = codes "ok" ∷ []
reply_words (reply.Dispatch answer) = given_words number_words answer
reply_words reply.Preempt = codes "ok" ∷ []
reply_words (reply.Leave answer) = state_words answer
reply_words (reply.Take answer) = number_words answer
reply_words (reply.Fetch answer) = maybe_words (codes "noexec") fetched_words answer
reply_words (reply.Access answer) = maybe_words (codes "denied") accessed_words answer
reply_words (reply.Fault answer) = number_words answer
reply_words (reply.Balance answer) = maybe_words (codes "none") moved_words answer
reply_words (reply.Sample answer) = maybe_words (codes "gone") sampled_words answer
reply_words (reply.Pin answer) = maybe_words (codes "gone") pinned_words answer

-- The words of a reply stand one space apart.
abbrev pub reply_text : Reply → List ℕ
reply_text r = join_with_byte 32 (reply_words r)

-- A reply is made of something of a form.
abbrev pub IsMade : {A : Type 0} → (A → Reply) → (A → Type 0) → Reply → Type 0
IsMade make good r = (x : _) × (r ≡ make x) × good x

-- A reply is one of those of the step with a name.
abbrev pub IsReplyOf : StepName → Reply → Type 0
IsReplyOf name.Bad r = IsMade reply.Bad (MayRefuse name.Bad) r
IsReplyOf name.Rest r = r ≡ reply.Rest
IsReplyOf name.Ls r = IsMade reply.Ls (IsAnswer AreListedNames name.Ls) r
IsReplyOf name.Cat r = IsMade reply.Cat (IsAnswer AreBytes name.Cat) r
IsReplyOf name.Dts r = IsMade reply.Dts (IsAnswer AreBytes name.Dts) r
IsReplyOf name.Run r = IsMade reply.Run (IsAnswer AreBytes name.Run) r
IsReplyOf name.Mkdir r = IsMade reply.Mkdir (IsAnswer IsAny name.Mkdir) r
IsReplyOf name.Rm r = IsMade reply.Rm (IsAnswer IsAny name.Rm) r
IsReplyOf name.Write r = IsMade reply.Write (IsAnswer IsAny name.Write) r
IsReplyOf name.Asm r = IsMade reply.Asm (IsAnswer IsNumber name.Asm) r
IsReplyOf name.Guests r = IsMade reply.Guests AreGuests r
IsReplyOf name.Name r = IsMade reply.Name (IsAnswer IsBorn name.Name) r
IsReplyOf name.Stage r = IsMade reply.Stage (IsAnswer IsAny name.Stage) r
IsReplyOf name.Add r = IsMade reply.Add (IsAnswer AreChanges name.Add) r
IsReplyOf name.Drop r = IsMade reply.Drop (IsAnswer AreChanges name.Drop) r
IsReplyOf name.Regions r = IsMade reply.Regions (IsAnswer AreWindows name.Regions) r
IsReplyOf name.Load r = IsMade reply.Load (IsAnswer IsNumber name.Load) r
IsReplyOf name.Mem r = IsMade reply.Mem (IsAnswer AreBytes name.Mem) r
IsReplyOf name.Devreset r = IsMade reply.Devreset (IsAnswer AreChanges name.Devreset) r
IsReplyOf name.Feed r = IsMade reply.Feed (IsAnswer AreChanges name.Feed) r
IsReplyOf name.Output r = IsMade reply.Output (IsAnswer AreBytes name.Output) r
IsReplyOf name.Vadd r = IsMade reply.Vadd (IsAnswer IsAny name.Vadd) r
IsReplyOf name.Vdrop r = IsMade reply.Vdrop (IsAnswer IsAny name.Vdrop) r
IsReplyOf name.Kick r = IsMade reply.Kick (IsAnswer IsAny name.Kick) r
IsReplyOf name.Resume r = IsMade reply.Resume (IsAnswer IsAny name.Resume) r
IsReplyOf name.Pause r = IsMade reply.Pause (IsAnswer IsAny name.Pause) r
IsReplyOf name.Halt r = IsMade reply.Halt (IsAnswer IsAny name.Halt) r
IsReplyOf name.Reset r = IsMade reply.Reset (IsAnswer IsAny name.Reset) r
IsReplyOf name.Look r = IsMade reply.Look IsLook r
IsReplyOf name.Tick r = IsMade reply.Tick (IsMaybe AreChanges) r
IsReplyOf name.Idle r = r ≡ reply.Idle
IsReplyOf name.Dispatch r = IsMade reply.Dispatch (IsAnswer IsNumber32 name.Dispatch) r
IsReplyOf name.Preempt r = r ≡ reply.Preempt
IsReplyOf name.Leave r = IsMade reply.Leave IsState r
IsReplyOf name.Take r = IsMade reply.Take IsNumber r
IsReplyOf name.Fetch r = IsMade reply.Fetch (IsMaybe IsFetched) r
IsReplyOf name.Access r = IsMade reply.Access (IsMaybe IsAccessed) r
IsReplyOf name.Fault r = IsMade reply.Fault IsNumber r
IsReplyOf name.Balance r = IsMade reply.Balance (IsMaybe IsMoved) r
IsReplyOf name.Sample r = IsMade reply.Sample (IsMaybe IsSampled) r
IsReplyOf name.Pin r = IsMade reply.Pin (IsMaybe IsAny) r

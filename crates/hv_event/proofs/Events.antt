-- Events, their words and their lines.
use Rattle.std.proofs.Common.{◌≡◌, ◌≢◌, ℕ, zero, suc, ◌-◌, ◌≤◌, length, take, length-drop, eqb, List, [], ◌∷◌, ◌++◌, drop, refl, sym, ap, subst, ◌∙◌, append_assoc, arith}
use Rattle.std.specs.Prelude.{codes, Result, Ok, Err, IfOk}
use Rattle.std.specs.List.{AllByRecursion, join_with_byte}
use Rattle.std.specs.Fmt.{decimal}
use Rattle.std.proofs.lemmas.Bool.{false≢true}
use Rattle.std.proofs.lemmas.Fmt.{decimal_injective}
use Rattle.std.proofs.Math.Seq.{take-nil}
use Rattle.std.proofs.lemmas.List.Splits.{join_with_byte-slice_split}
use Rattle.hv_text.specs.Front.{IsFree}
use Rattle.hv_data.specs.Data.{data_words}
use Rattle.hv_data.specs.Reading.{parts_at}
use Rattle.hv_data.proofs.DataLemmas.{data_free}
use Rattle.hv_data.proofs.Foreign.{IsForeign, space_foreign, decimal_free, apart, lower_is_name}
use Rattle.hv_data.proofs.Splits.{joined_parts, joined_spaced}
use Rattle.hv_name.specs.StepName.{name_word}
use Rattle.hv_step.specs.declared.step.Step.{Step}
use Rattle.hv_step.specs.Words.{name_of, step_data, step_words, step_text, IsStep, BeginWithStep, BeginWithNoStep, IsOneStep}
use Rattle.hv_step.proofs.Fronts.{same_step}
use Rattle.hv_answer.specs.declared.reply.Reply.{Reply}
use Rattle.hv_answer.specs.Reply.{reply_words, reply_text, IsReplyOf}
use Rattle.hv_answer.specs.Reading.{AreReplyWords}
use Rattle.hv_answer.proofs.Replies.{same_reply, reply_free}
use Rattle.hv_event.specs.declared.event.ActorId.{ActorId}
use Rattle.hv_event.specs.declared.event.ActorId.TheVariants.{Hart, Terminal}
use Rattle.hv_event.specs.declared.event.Event.{Event}
use Rattle.hv_event.specs.declared.refusal.LineRefusal.{LineRefusal}
use Rattle.hv_event.specs.declared.refusal.LineRefusal.TheVariants.{BadLine, Memory}
use Rattle.hv_event.specs.Line.{actor_text, event_text}
use Rattle.hv_event.specs.Words.{arrow, event_words}
use Rattle.hv_event.specs.Written.{IsActor, IsWritten}
use Rattle.hv_event.specs.Reading.{AreEventWords, AreRead, IsUnlessMemory, IsNoEventLine}
use Rattle.hv_event.proofs.Shapes.{name_free, HaveFirst, reply_first, ends_before_arrow}

-- two actors with one word are one
same_actor : (one other : ActorId) → IsActor one → IsActor other → actor_text one ≡ actor_text other → one ≡ other
same_actor (Hart m) (Hart n) h k e = ap Hart (decimal_injective m n (omega arith) (omega arith) (cc e))
same_actor (Hart m) (Terminal n) h k e = let letters : 104 ≡ 116 = cc e in absurd (false≢true (sym (ap (λ (x : ℕ). eqb 104 x) letters)))
same_actor (Terminal m) (Hart n) h k e = let letters : 116 ≡ 104 = cc e in absurd (false≢true (sym (ap (λ (x : ℕ). eqb 116 x) letters)))
same_actor (Terminal m) (Terminal n) h k e = ap Terminal (decimal_injective m n (omega arith) (omega arith) (cc e))

-- an actor's word has no space
actor_free : (d : ℕ) (actor : ActorId) → IsForeign d → IsActor actor → IsFree d (actor_text actor)
actor_free d (Hart n) out h = (apart d 104 out (lower_is_name 104 (omega arith, omega arith)), decimal_free d n out (omega arith))
actor_free d (Terminal n) out h = (apart d 116 out (lower_is_name 116 (omega arith, omega arith)), decimal_free d n out (omega arith))

-- words joined to words behind them
joined_behind : (w v : List ℕ) (ws vs : List (List ℕ)) → join_with_byte 32 ((w ∷ ws) ++ v ∷ vs) ≡ join_with_byte 32 (w ∷ ws) ++ 32 ∷ join_with_byte 32 (v ∷ vs)
joined_behind w v [] vs = refl
joined_behind w v (u ∷ ws) vs =
    ap (λ (t : List ℕ). w ++ 32 ∷ t) (joined_behind u v ws vs) ∙ sym (append_assoc w (32 ∷ join_with_byte 32 (u ∷ ws)) (32 ∷ join_with_byte 32 (v ∷ vs)))

-- an arrow joined to a reply
arrow_joined : (words : List (List ℕ)) → HaveFirst words → join_with_byte 32 (arrow ∷ words) ≡ codes "-> " ++ join_with_byte 32 words
arrow_joined words first =
    ap (λ (ws : List (List ℕ)). join_with_byte 32 (arrow ∷ ws)) first.2 ∙ ap (λ (ws : List (List ℕ)). codes "-> " ++ join_with_byte 32 ws) (sym first.2)

step_and_reply : (s : Step) (r : Reply) → join_with_byte 32 (step_words s ++ arrow ∷ reply_words r) ≡ step_text s ++ (codes " -> " ++ reply_text r)
step_and_reply s r =
    joined_behind (name_word (name_of s)) arrow (data_words (step_data s)) (reply_words r)
    ∙ ap (λ (t : List ℕ). t ++ 32 ∷ join_with_byte 32 (arrow ∷ reply_words r)) (joined_spaced (name_word (name_of s)) (data_words (step_data s)))
    ∙ ap (λ (t : List ℕ). step_text s ++ 32 ∷ t) (arrow_joined (reply_words r) (reply_first r))

-- an event's line is its words one space apart
text_joined : (e : Event) → join_with_byte 32 (event_words e) ≡ event_text e
unfolding event_text
text_joined e =
    ap (λ (t : List ℕ). decimal e.stamp ++ 32 ∷ (actor_text e.actor ++ 32 ∷ (decimal e.index ++ 32 ∷ t))) (step_and_reply e.step e.reply) ∙ simp append_assoc

all_append : (xs ys : List (List ℕ)) → AllByRecursion (IsFree 32) xs → AllByRecursion (IsFree 32) ys → AllByRecursion (IsFree 32) (xs ++ ys)
all_append [] ys h k = k
all_append (x ∷ xs) ys h k = (h.0, all_append xs ys h.1 k)

arrow_free : IsFree 32 arrow
arrow_free = ((λ e. omega (arith, e)), ((λ e. omega (arith, e)), tt))

-- no word of a written step has a space
step_free : (s : Step) → IsStep s → AllByRecursion (IsFree 32) (step_words s)
step_free s h = (name_free (name_of s), data_free (step_data s) h)

-- a written event's line has its words as its parts
words_parted : (e : Event) → IsWritten e → parts_at 32 (event_text e) ≡ event_words e
words_parted e h =
    ap (parts_at 32) (sym (text_joined e))
    ∙ joined_parts 32 (decimal e.stamp) (actor_text e.actor ∷ decimal e.index ∷ (step_words e.step ++ arrow ∷ reply_words e.reply)) (decimal_free 32 e.stamp space_foreign h.stamp)
    (actor_free 32 e.actor space_foreign h.actor, (decimal_free 32 e.index space_foreign h.index, all_append (step_words e.step) (arrow ∷ reply_words e.reply) (step_free e.step h.step) (arrow_free, reply_free (name_of e.step) e.reply h.reply)))

-- behind its first three words an event's words begin with its step's
pub step_begins : (words : List (List ℕ)) (e : Event) → AreEventWords words e → BeginWithStep (drop 3 words) e.step (arrow ∷ reply_words e.reply)
step_begins words e h = record { written = h.0.step; words_are = ap (drop 3) h.1; ends = ends_before_arrow e.step e.reply h.0.reply }

-- an event of words has the step with which they go on
pub same_tail : (words rest : List (List ℕ)) (s : Step) (e : Event) → BeginWithStep (drop 3 words) s rest → AreEventWords words e → IsOneStep s e.step rest (arrow ∷ reply_words e.reply)
same_tail words rest s e begins h = same_step (drop 3 words) s e.step rest (arrow ∷ reply_words e.reply) begins (step_begins words e h)

take_whole : (n : ℕ) (words : List (List ℕ)) → length words ≤ n → take n words ≡ words
take_whole n [] le = take-nil n
take_whole zero (w ∷ words) le = absurd (omega arith)
take_whole (suc n) (w ∷ words) le = ap (λ (ws : List (List ℕ)). w ∷ ws) (take_whole n words (omega arith))

-- what follows the first three words, all of it
pub behind_three : (words : List (List ℕ)) → take (length words - 3) (drop 3 words) ≡ drop 3 words
behind_three words = take_whole (length words - 3) (drop 3 words) (omega (arith, length-drop 3 words))

-- words that go on with no step are no event's
pub no_event_without_step : (words tail : List (List ℕ)) → tail ≡ drop 3 words → BeginWithNoStep tail → (e : Event) → AreEventWords words e → ⊥
no_event_without_step words tail is none e h =
    none e.step (arrow ∷ reply_words e.reply) (subst (λ (t : List (List ℕ)). BeginWithStep t e.step (arrow ∷ reply_words e.reply)) (sym is) (step_begins words e h))

-- nor those that have no arrow behind their step
pub no_event_without_arrow : (words tail rest : List (List ℕ)) (s : Step) → tail ≡ drop 3 words → BeginWithStep tail s rest → ((behind : List (List ℕ)) → rest ≢ arrow ∷ behind)
    → (e : Event) → AreEventWords words e → ⊥
no_event_without_arrow words tail rest s is begins none e h =
    none (reply_words e.reply) (same_tail words rest s e (subst (λ (t : List (List ℕ)). BeginWithStep t s rest) is begins) h).same_rest

-- nor those that have no reply of the step behind the arrow
pub no_event_without_reply : (words tail rest back : List (List ℕ)) (s : Step) → tail ≡ drop 3 words → BeginWithStep tail s rest → rest ≡ arrow ∷ back → ((r : Reply) → AreReplyWords (name_of s) back r → ⊥)
    → (e : Event) → AreEventWords words e → ⊥
no_event_without_reply words tail rest back s is begins arrow_is none e h =
    let same = same_tail words rest s e (subst (λ (t : List (List ℕ)). BeginWithStep t s rest) is begins) h in
    let both : arrow ∷ back ≡ arrow ∷ reply_words e.reply = sym arrow_is ∙ same.same_rest in
    none e.reply (subst (λ (t : Step). IsReplyOf (name_of t) e.reply) (sym same.same_step) h.0.reply, cc both)

abbrev event_of : ℕ → ActorId → ℕ → Step → Reply → Event
event_of stamp actor index s r = record { actor = actor; index = index; stamp = stamp; step = s; reply = r }

-- two written events of one line are one
pub same_event : (one other : Event) → IsWritten one → IsWritten other → event_text one ≡ event_text other → one ≡ other
same_event one other h k e =
    let words : event_words one ≡ event_words other = sym (words_parted one h) ∙ ap (parts_at 32) e ∙ words_parted other k in
    let stamps : one.stamp ≡ other.stamp = decimal_injective one.stamp other.stamp h.stamp k.stamp (cc words) in
    let actors : one.actor ≡ other.actor = same_actor one.actor other.actor h.actor k.actor (cc words) in
    let indexes : one.index ≡ other.index = decimal_injective one.index other.index h.index k.index (cc words) in
    let tails = same_tail (event_words one) (arrow ∷ reply_words one.reply) one.step other (step_begins (event_words one) one (h, refl)) (k, words) in
    let steps : one.step ≡ other.step = tails.same_step in
    let replies : one.reply ≡ other.reply =
    same_reply (name_of one.step) one.reply other.reply h.reply (subst (λ (s : Step). IsReplyOf (name_of s) other.reply) (sym steps) k.reply) (cc tails.same_rest) in
    ap (λ (n : ℕ). event_of n one.actor one.index one.step one.reply) stamps
    ∙ ap (λ (a : ActorId). event_of other.stamp a one.index one.step one.reply) actors
    ∙ ap (λ (n : ℕ). event_of other.stamp other.actor n one.step one.reply) indexes
    ∙ ap (λ (s : Step). event_of other.stamp other.actor other.index s one.reply) steps
    ∙ ap (λ (r : Reply). event_of other.stamp other.actor other.index other.step r) replies

-- what the words of a line are read as is what the line is
pub line_found : (line : List ℕ) (words : List (List ℕ)) (e : Event) → words ≡ parts_at 32 line → AreEventWords words e → IsWritten e × (line ≡ event_text e)
line_found line words e is h =
    (h.0, sym (join_with_byte-slice_split 32 line) ∙ ap (join_with_byte 32) (sym is ∙ h.1) ∙ text_joined e)

words_found : (line : List ℕ) (words : List (List ℕ)) (e : Event) → words ≡ parts_at 32 line → IsWritten e → line ≡ event_text e → AreEventWords words e
words_found line words e is h line_is = (h, is ∙ ap (parts_at 32) line_is ∙ words_parted e h)

pub read_found : (line : List ℕ) (words : List (List ℕ)) (r : Result Event LineRefusal) → words ≡ parts_at 32 line → AreRead words r → IfOk r (λ e. IsWritten e × (line ≡ event_text e))
read_found line words (Ok e) is h = line_found line words e is h
read_found line words (Err e) is h = tt

pub read_event : (line : List ℕ) (words : List (List ℕ)) (r : Result Event LineRefusal) → words ≡ parts_at 32 line → AreRead words r
    → (e : Event) → IsWritten e → line ≡ event_text e → IsUnlessMemory r (Ok e)
read_event line words (Ok found) is h e written line_is =
    let there = line_found line words found is h in
    ap Ok (same_event found e there.0 written (sym there.1 ∙ line_is))
read_event line words (Err BadLine) is h e written line_is = absurd (h e (words_found line words e is written line_is))
read_event line words (Err (Memory m)) is h e written line_is = tt

pub read_bad : (line : List ℕ) (words : List (List ℕ)) (r : Result Event LineRefusal) → words ≡ parts_at 32 line → AreRead words r → r ≡ Err BadLine → IsNoEventLine line
read_bad line words r is h bad e written line_is =
    let there : AreRead words (Err BadLine) = subst (AreRead words) bad h in
    there e (words_found line words e is written line_is)

pub read_none : (line : List ℕ) (words : List (List ℕ)) (r : Result Event LineRefusal) → words ≡ parts_at 32 line → AreRead words r → IsNoEventLine line → IsUnlessMemory r (Err BadLine)
read_none line words (Ok e) is h none = let there = line_found line words e is h in absurd (none e there.0 there.1)
read_none line words (Err BadLine) is h none = refl
read_none line words (Err (Memory m)) is h none = tt

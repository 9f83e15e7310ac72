-- For each input one answer is due, but for those of a good input and those of any.
use Rattle.std.proofs.Common.{◌≡◌, ℕ, ◌+◌, ◌<◌, ◌≤◌, List, Option, Some, None, inl, inr, length, refl, sym, ap, subst, ◌∙◌, arith}
use Rattle.std.specs.Prelude.{IfSome, Err, codes, [], ◌∷◌, ◌⊎◌}
use Rattle.hv_kinds.specs.declared.limit.LimitName.{LimitName}
use Rattle.hv_kinds.specs.declared.limit.LimitName.TheVariants as limit
use Rattle.hv_bundle.specs.declared.file.File.{File}
use Rattle.hv_bundle.specs.Bundle.{IsBadAt}
use Rattle.hv_bundle.proofs.Fitting.{one_reading}
use Rattle.hv_bundle.proofs.Offsets.{one_offset}
use Rattle.hv_host.specs.declared.refusal.BoardRefusal.{BoardRefusal}
use Rattle.hv_host.specs.declared.refusal.BoardRefusal.TheVariants as board
use Rattle.hv_host.specs.Boards.{Says, IsWantOfMemory, AreOneRefusal}
use Rattle.hv_host.proofs.Said.{no_refusal, one_refusal}
use Rattle.xvsim.proofs.Named.{input_not_gen}
use Rattle.xvsim.proofs.Told.{due_here}
use Rattle.xvsim.specs.Words.{AreInputWords, AreAnyGenWords, AreWords}
use Rattle.xvsim.specs.Opening.{host_text}
use Rattle.xvsim.specs.declared.limits.TheConstants.{MOST_BYTES}
use Rattle.xvsim.specs.Limits.{PassesOwnLimit, own, host, AreWithinLimits, IsInput, AreGood}
use Rattle.xvsim.specs.Refusal.{IsDueForFiles, IsDueForBytes, status_of}
use Rattle.xvsim.specs.Due.{AreGoodBytes, IsDue, IsDueStatus, IsOfAny, IsOfGood, IsAnswerFor, same, both_good, came_to_any, due_to_any}
use Rattle.xvsim.specs.declared.refusal.InputRefusal.{InputRefusal}
use Rattle.xvsim.specs.declared.refusal.InputRefusal.TheVariants as refusal
use Rattle.xvsim.specs.declared.status.Status.{Status}
use Rattle.xvsim.specs.declared.status.Status.TheVariants as status

-- files that pass a limit by themselves are not within the limits
not_within : (files : List File) (name : LimitName) (number : ℕ) → PassesOwnLimit files name number → AreWithinLimits files → ⊥
not_within files limit.Files number passes within = let few = within.few in omega (arith, passes.0, passes.1, few)
not_within files limit.Depth number passes within = let shallow = within.shallow in omega (arith, passes.1, passes.2, shallow)
not_within files limit.Lines number passes within = let short = within.short in omega (arith, passes.2, passes.3, short)
not_within files name number passes within = absurd passes

-- of these limits files pass one first, with one number
one_limit : (files : List File) (name other : LimitName) (number found : ℕ) → PassesOwnLimit files name number → PassesOwnLimit files other found → refusal.Limit name number ≡ refusal.Limit other found
one_limit files limit.Files limit.Files number found h k = ap (refusal.Limit limit.Files) (h.0 ∙ sym k.0)
one_limit files limit.Files limit.Depth number found h k = absurd (omega (arith, h.0, h.1, k.0))
one_limit files limit.Files limit.Lines number found h k = absurd (omega (arith, h.0, h.1, k.0))
one_limit files limit.Files other number found h k = absurd k
one_limit files limit.Depth limit.Files number found h k = absurd (omega (arith, k.0, k.1, h.0))
one_limit files limit.Depth limit.Depth number found h k = ap (refusal.Limit limit.Depth) (h.1 ∙ sym k.1)
one_limit files limit.Depth limit.Lines number found h k = absurd (omega (arith, h.1, h.2, k.1))
one_limit files limit.Depth other number found h k = absurd k
one_limit files limit.Lines limit.Files number found h k = absurd (omega (arith, k.0, k.1, h.0))
one_limit files limit.Lines limit.Depth number found h k = absurd (omega (arith, k.1, k.2, h.1))
one_limit files limit.Lines limit.Lines number found h k = ap (refusal.Limit limit.Lines) (h.2 ∙ sym k.2)
one_limit files limit.Lines other number found h k = absurd k
one_limit files name other number found h k = absurd h

-- the refusal of an input by what its host tree says
said : BoardRefusal → InputRefusal
said (board.BadTree offset) = refusal.BadTree offset
said (board.Limit name number) = refusal.Limit name number
said (board.BadHost path) = refusal.BadHost path
said (board.Memory e) = refusal.Memory e

-- why files are refused: a limit that they pass by themselves, or what their host tree says
data Reason (files : List File) (why : InputRefusal) : Type 0 where
  by_files : (name : LimitName) (number : ℕ) → PassesOwnLimit files name number → why ≡ refusal.Limit name number → Reason files why
  by_host : (it : BoardRefusal) → AreWithinLimits files → Says (host_text files) (Err it) → (IsWantOfMemory it → ⊥) → why ≡ said it → Reason files why

-- a refusal of an input that is no fault of reading and no want of memory
abbrev IsOwn : InputRefusal → Type 0
IsOwn refusal.ReadFault = ⊥
IsOwn (refusal.Memory e) = ⊥
IsOwn why = Unit {0}

reason_of : (files : List File) (why : InputRefusal) → IsOwn why → IsDueForFiles files why → Reason files why
unfolding said
reason_of files refusal.ReadFault is due = absurd due
reason_of files (refusal.BadBundle offset) is due = absurd due
reason_of files (refusal.Limit name number) is (own passes) = by_files name number passes refl
reason_of files (refusal.Limit name number) is (host within says) = by_host (board.Limit name number) within says (λ e. e) refl
reason_of files (refusal.BadTree offset) is due = by_host (board.BadTree offset) due.0 due.1 (λ e. e) refl
reason_of files (refusal.BadHost path) is due = by_host (board.BadHost path) due.0 due.1 (λ e. e) refl
reason_of files (refusal.Memory e) is due = absurd is

same_said : (one other : BoardRefusal) → (IsWantOfMemory one → ⊥) → (IsWantOfMemory other → ⊥) → AreOneRefusal one other → said one ≡ said other
same_said (board.Memory e) other some more are = absurd (some tt)
same_said one (board.Memory e) some more are = absurd (more tt)
same_said one other some more are = ap said are

-- files are refused for one reason
one_reason : (files : List File) (one other : InputRefusal) → Reason files one → Reason files other → one ≡ other
one_reason files one other (by_files name number passes is) (by_files found most passed it) = is ∙ one_limit files name found number most passes passed ∙ sym it
one_reason files one other (by_files name number passes is) (by_host why within says some it) = absurd (not_within files name number passes within)
one_reason files one other (by_host why within says some is) (by_files name number passes it) = absurd (not_within files name number passes within)
one_reason files one other (by_host why within says some is) (by_host cause within' said' more it) =
    is ∙ same_said why cause some more (one_refusal (host_text files) why cause says said') ∙ sym it

-- good files are refused for none
no_reason : (files : List File) (why : InputRefusal) → AreGood files → Reason files why → ⊥
no_reason files why good (by_files name number passes is) = not_within files name number passes good.within
no_reason files why good (by_host it within says some is) = some (no_refusal (host_text files) good.board it good.says says)

-- why bytes are refused: there are too many, or they are no bundle, or what stands inside is refused
data Finding (bytes : List ℕ) (why : InputRefusal) : Type 0 where
  too_many : MOST_BYTES < length bytes → why ≡ refusal.Limit limit.Bytes (MOST_BYTES + 1) → Finding bytes why
  no_bundle : (offset : ℕ) → length bytes ≤ MOST_BYTES → IsBadAt bytes offset → why ≡ refusal.BadBundle offset → Finding bytes why
  inside : (files : List File) → IsInput bytes files → Reason files why → Finding bytes why

limits_are : (name : LimitName) (number : ℕ) → name ≡ limit.Bytes → number ≡ MOST_BYTES + 1 → refusal.Limit name number ≡ refusal.Limit limit.Bytes (MOST_BYTES + 1)
limits_are name number e f = ap (λ (n : LimitName). refusal.Limit n number) e ∙ ap (refusal.Limit limit.Bytes) f

finding_of : (bytes : List ℕ) (why : InputRefusal) → IsOwn why → IsDueForBytes bytes why → Finding bytes why
finding_of bytes refusal.ReadFault is due = absurd is
finding_of bytes (refusal.BadBundle offset) is due = no_bundle offset due.0 due.1 refl
finding_of bytes (refusal.Limit name number) is (inl many) = too_many many.many (limits_are name number many.name_is many.number_is)
finding_of bytes (refusal.Limit name number) is (inr due) = inside due.files due.input (reason_of due.files (refusal.Limit name number) is due.due)
finding_of bytes (refusal.BadTree offset) is due = inside due.files due.input (reason_of due.files (refusal.BadTree offset) is due.due)
finding_of bytes (refusal.BadHost path) is due = inside due.files due.input (reason_of due.files (refusal.BadHost path) is due.due)
finding_of bytes (refusal.Memory e) is due = absurd is

same_files : (bytes : List ℕ) (files others : List File) → IsInput bytes files → IsInput bytes others → files ≡ others
same_files bytes files others one other = one_reading bytes files others one.bundle other.bundle

too_few : (bytes : List ℕ) → MOST_BYTES < length bytes → length bytes ≤ MOST_BYTES → ⊥
too_few bytes many few = omega (arith, many, few)

-- bytes are refused for one finding
one_finding : (bytes : List ℕ) (one other : InputRefusal) → Finding bytes one → Finding bytes other → one ≡ other
one_finding bytes one other (too_many many is) (too_many more it) = is ∙ sym it
one_finding bytes one other (too_many many is) (no_bundle offset few bad it) = absurd (too_few bytes many few)
one_finding bytes one other (too_many many is) (inside files input reason) = absurd (too_few bytes many input.size)
one_finding bytes one other (no_bundle offset few bad is) (too_many many it) = absurd (too_few bytes many few)
one_finding bytes one other (no_bundle offset few bad is) (no_bundle found less worse it) = is ∙ ap refusal.BadBundle (one_offset bytes offset found bad worse) ∙ sym it
one_finding bytes one other (no_bundle offset few bad is) (inside files input reason) = absurd (bad.no_bundle files input.bundle)
one_finding bytes one other (inside files input reason) (too_many many it) = absurd (too_few bytes many input.size)
one_finding bytes one other (inside files input reason) (no_bundle offset few bad it) = absurd (bad.no_bundle files input.bundle)
one_finding bytes one other (inside files input reason) (inside others input' cause) =
    one_reason others one other (subst (λ (fs : List File). Reason fs one) (same_files bytes files others input input') reason) cause

-- good bytes are refused for none
no_finding : (bytes : List ℕ) (why : InputRefusal) → AreGoodBytes bytes → Finding bytes why → ⊥
no_finding bytes why good (too_many many is) = too_few bytes many good.input.size
no_finding bytes why good (no_bundle offset few bad is) = bad.no_bundle good.files good.input.bundle
no_finding bytes why good (inside files input reason) =
    no_reason good.files why good.good (subst (λ (fs : List File). Reason fs why) (same_files bytes files good.files input good.input) reason)

-- what an answer says of the words and the bytes
data Verdict (words : List (List ℕ)) (bytes : List ℕ) (s : Status) : Type 0 where
  of_any : IsOfAny s → Verdict words bytes s
  other_words : (AreWords words → ⊥) → s ≡ status.Usage → Verdict words bytes s
  refused : (why : InputRefusal) → AreInputWords words → Finding bytes why → s ≡ status_of why → Verdict words bytes s
  of_good : IsOfGood s → AreInputWords words → AreGoodBytes bytes → Verdict words bytes s
  of_gen : IsOfGood s → AreAnyGenWords words → Verdict words bytes s

-- a refusal that is due for the bytes, or not at all
refused_for : (words : List (List ℕ)) (bytes : List ℕ) (why : InputRefusal) → IsOwn why → (AreInputWords words × IsDueForBytes bytes why) ⊎ (AreAnyGenWords words × ⊥)
    → Verdict words bytes (status_of why)
refused_for words bytes why is (inl due) = refused why due.0 (finding_of bytes why is due.1) refl
refused_for words bytes why is (inr gen) = absurd gen.1

-- an answer that is due for good bytes, or for the words of `gen`
good_for : (words : List (List ℕ)) (bytes : List ℕ) (s : Status) → IsOfGood s → (AreInputWords words × AreGoodBytes bytes) ⊎ (AreAnyGenWords words × Unit {0}) → Verdict words bytes s
good_for words bytes s good (inl due) = of_good good due.0 due.1
good_for words bytes s good (inr gen) = of_gen good gen.0

verdict_of : (words : List (List ℕ)) (bytes : List ℕ) (s : Status) → IsDue words bytes s → Verdict words bytes s
verdict_of words bytes status.Usage due = other_words due refl
verdict_of words bytes status.ReadFault due = of_any tt
verdict_of words bytes status.OutOfMemory due = of_any tt
verdict_of words bytes (status.Limit name number) due = refused_for words bytes (refusal.Limit name number) tt due
verdict_of words bytes (status.BadBundle offset) due = refused_for words bytes (refusal.BadBundle offset) tt due
verdict_of words bytes (status.BadTree offset) due = refused_for words bytes (refusal.BadTree offset) tt due
verdict_of words bytes (status.BadHost path) due = refused_for words bytes (refusal.BadHost path) tt due
verdict_of words bytes status.Done due = good_for words bytes status.Done tt due
verdict_of words bytes status.WriteFault due = good_for words bytes status.WriteFault tt due
verdict_of words bytes (status.StampsSpent stamp) due = of_good tt (inl due.0) due.1

one_verdict : (words : List (List ℕ)) (bytes : List ℕ) (one other : Status) → Verdict words bytes one → Verdict words bytes other → IsAnswerFor one other
one_verdict words bytes one other (of_any any) there = came_to_any any
one_verdict words bytes one other here (of_any any) = due_to_any any
one_verdict words bytes one other (other_words none is) (other_words never it) = same (is ∙ sym it)
one_verdict words bytes one other (other_words none is) (refused why of finding it) = absurd (none (inl of))
one_verdict words bytes one other (other_words none is) (of_good good of bytes_good) = absurd (none (inl of))
one_verdict words bytes one other (other_words none is) (of_gen good gen) = absurd (none (inr gen))
one_verdict words bytes one other (refused why of finding is) (other_words none it) = absurd (none (inl of))
one_verdict words bytes one other (refused why of finding is) (refused cause of' found it) = same (is ∙ ap status_of (one_finding bytes why cause finding found) ∙ sym it)
one_verdict words bytes one other (refused why of finding is) (of_good good of' bytes_good) = absurd (no_finding bytes why bytes_good finding)
one_verdict words bytes one other (refused why of finding is) (of_gen good gen) = absurd (input_not_gen words of gen)
one_verdict words bytes one other (of_good good of bytes_good) (other_words none it) = absurd (none (inl of))
one_verdict words bytes one other (of_good good of bytes_good) (refused why of' finding it) = absurd (no_finding bytes why bytes_good finding)
one_verdict words bytes one other (of_good good of bytes_good) (of_good fine of' bytes_fine) = both_good good fine
one_verdict words bytes one other (of_good good of bytes_good) (of_gen fine gen) = both_good good fine
one_verdict words bytes one other (of_gen good gen) (other_words none it) = absurd (none (inr gen))
one_verdict words bytes one other (of_gen good gen) (refused why of finding it) = absurd (input_not_gen words of gen)
one_verdict words bytes one other (of_gen good gen) (of_good fine of bytes_fine) = both_good good fine
one_verdict words bytes one other (of_gen good gen) (of_gen fine other_gen) = both_good good fine

-- an answer that came because it was due is one for each answer that is due
pub exact_of : (words : List (List ℕ)) (told : Option (List ℕ)) (came : Status) → IfSome told (λ bytes. IsDue words bytes came) → IfSome told (λ bytes. (due : Status) → IsDue words bytes due → IsAnswerFor came due)
exact_of words None came h = tt
exact_of words (Some bytes) came h = λ due it. one_verdict words bytes came due (verdict_of words bytes came h) (verdict_of words bytes due it)

-- the words of a run
run_words : List (List ℕ)
run_words = codes "run" ∷ codes "--turns" ∷ codes "0" ∷ codes "--order" ∷ codes "seq" ∷ []

verdict_here : (bytes : List ℕ) (s : Status) → IsDueStatus bytes s → Verdict run_words bytes s
unfolding run_words
verdict_here bytes s due = verdict_of run_words bytes s (due_here run_words bytes s (inl refl) (λ stamp is. refl) due)

-- the same where the words name a command
pub exact_status : (told : Option (List ℕ)) (came : Status) → IfSome told (λ bytes. IsDueStatus bytes came) → IfSome told (λ bytes. (due : Status) → IsDueStatus bytes due → IsAnswerFor came due)
exact_status None came h = tt
exact_status (Some bytes) came h = λ due it. one_verdict run_words bytes came due (verdict_here bytes came h) (verdict_here bytes due it)

-- a refusal that is due for the bytes is one as a status
pub due_status : (told : Option (List ℕ)) (why : InputRefusal) → IfSome told (λ bytes. IsDueForBytes bytes why) → IfSome told (λ bytes. IsDueStatus bytes (status_of why))
due_status None why h = tt
due_status (Some bytes) refusal.ReadFault h = tt
due_status (Some bytes) (refusal.BadBundle offset) h = h
due_status (Some bytes) (refusal.Limit name number) h = h
due_status (Some bytes) (refusal.BadTree offset) h = h
due_status (Some bytes) (refusal.BadHost path) h = h
due_status (Some bytes) (refusal.Memory e) h = tt

-- an answer that any input may get is one for each answer that is due
pub exact_any : (told : Option (List ℕ)) (came : Status) → IsOfAny came → IfSome told (λ bytes. (due : Status) → IsDueStatus bytes due → IsAnswerFor came due)
exact_any None came any = tt
exact_any (Some bytes) came any = λ due it. came_to_any any

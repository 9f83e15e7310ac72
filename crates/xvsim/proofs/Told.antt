-- What holds of the bytes that a source tells.
use Rattle.std.proofs.Common.{◌≡◌, ℕ, List, Option, Some, None, Bool, inl, inr, refl, sym, ap, subst, ◌∙◌}
use Rattle.std.specs.Prelude.{IfSome, IsTrue}
use Rattle.std.specs.Io.KnownBytes.{IsAtEnd}
use Rattle.hv_bundle.specs.declared.file.File.{File}
use Rattle.hv_bundle.specs.Bundle.{IsBundle}
use Rattle.hv_model.specs.declared.opening.Opening.{Opening}
use Rattle.xvsim.specs.declared.input.Input.{Input}
use Rattle.xvsim.specs.declared.kept.KeptRunOf.{KeptRunOf}
use Rattle.xvsim.specs.declared.status.Status.{Status}
use Rattle.xvsim.specs.declared.status.Status.TheVariants as status
use Rattle.xvsim.specs.Given.{GaveBytes}
use Rattle.xvsim.specs.Words.{AreRunWords, AreInputWords, AreAnyGenWords}
use Rattle.xvsim.specs.Opening.{IsOpening, IsOpeningOf}
use Rattle.xvsim.specs.Input.{IsWhole, IsReadFrom, IsAllOf}
use Rattle.xvsim.specs.Run.{IsRunOf}
use Rattle.xvsim.specs.Check.{IsCheckOf, check_text}
use Rattle.xvsim.specs.Due.{AreGoodBytes, IsDueStatus, IsDue, IsOfGen}

-- what holds of all bytes
pub always : (P : List ℕ → Type 0) (t : Option (List ℕ)) → ((bytes : List ℕ) → P bytes) → IfSome t P
always P None h = tt
always P (Some bytes) h = h bytes

-- what follows from what holds
pub follows : (P Q : List ℕ → Type 0) (t : Option (List ℕ)) → ((bytes : List ℕ) → P bytes → Q bytes) → IfSome t P → IfSome t Q
follows P Q None f h = tt
follows P Q (Some bytes) f h = f bytes h

-- what holds of the bytes that were read
pub told : (P : List ℕ → Type 0) (t : Option (List ℕ)) (items : List ℕ) → IfSome t (λ bytes. items ≡ bytes) → P items → IfSome t P
told P t items is p = follows (λ bytes. items ≡ bytes) P t (λ bytes e. subst P e p) is

-- what follows of the bytes that a source gave
pub of_given : (P Q : List ℕ → Type 0) (t : Option (List ℕ)) → ((bytes : List ℕ) → P bytes → Q bytes) → GaveBytes t P → GaveBytes t Q
of_given P Q t f given = record { bytes = given.bytes; as_told = given.as_told; holds = f given.bytes given.holds }

-- what holds of the bytes that a source gave holds of those that it told
pub of_told : (P : List ℕ → Type 0) (t : Option (List ℕ)) → GaveBytes t P → IfSome t P
of_told P None given = tt
of_told P (Some bytes) given = subst P given.as_told given.holds

-- the bytes that were read, and the input that was read from them
pub all_of : (told left : Option (List ℕ)) (ended : Bool) (input : Input) (bytes : List ℕ) → IsTrue ended → IsAtEnd left → IfSome told (λ known. bytes ≡ known) → IsReadFrom bytes input
    → IsAllOf told left ended input
all_of told left ended input bytes all nothing as_told read = record {
  all_read = all;
  nothing_left = nothing;
  read = record { bytes = bytes; as_told = as_told; holds = read };
}

-- what a run of these files begins with
opening_is : (bytes : List ℕ) (input : Input) (o p : Opening) → IsReadFrom bytes input → IsOpeningOf input.files.items o → p ≡ o → IsOpening bytes p
opening_is bytes input o p read is same =
    let own : input.files.items ≡ p.files = sym (ap (λ (q : Opening). q.files) same ∙ is.files_are) in
    let begins : IsOpeningOf input.files.items p = subst (λ (q : Opening). IsOpeningOf input.files.items q) (sym same) is in
    record {
      bundle = subst (λ (fs : List File). IsBundle bytes fs) own read.bundle.bundle;
      start = subst (λ (fs : List File). IsOpeningOf fs p) own begins;
    }

pub run_of : {E : Type 0} (told left : Option (List ℕ)) (ended : Bool) (input : Input) (run : KeptRunOf E) (o : Opening) → IsAllOf told left ended input → IsOpeningOf input.files.items o → run.opening ≡ o
    → IsRunOf told left ended run
run_of told left ended input run o all is same = record {
  all_read = all.all_read;
  nothing_left = all.nothing_left;
  opening = of_given (λ bytes. IsReadFrom bytes input) (λ bytes. IsOpening bytes run.opening) told (λ bytes read. opening_is bytes input o run.opening read is same) all.read;
}

-- the bytes of an input are good
pub good_of : (told left : Option (List ℕ)) (ended : Bool) (input : Input) → IsWhole input → IsAllOf told left ended input → IfSome told AreGoodBytes
good_of told left ended input whole all =
    of_told AreGoodBytes told
    (of_given (λ bytes. IsReadFrom bytes input) AreGoodBytes told
    (λ bytes read. record { files = input.files.items; input = read.bundle; good = record { within = whole.within; board = input.board; says = whole.board } }) all.read)

-- the text of an input's check is that of its bytes
pub check_of : (told left : Option (List ℕ)) (ended : Bool) (input : Input) (text : List ℕ) → IsWhole input → IsAllOf told left ended input → text ≡ check_text input.files.items input.size input.board
    → GaveBytes told (λ bytes. IsCheckOf bytes text)
check_of told left ended input text whole all is =
    of_given (λ bytes. IsReadFrom bytes input) (λ bytes. IsCheckOf bytes text) told
    (λ bytes read. record {
      files = input.files.items;
      input = read.bundle;
      within = whole.within;
      board = input.board;
      says = whole.board;
      text_is = is ∙ ap (λ (size : ℕ). check_text input.files.items size input.board) read.size;
    }) all.read

-- an answer that is due for the bytes is due for the words of a command that reads them, and those of a run where the run was stopped
pub due_here : (words : List (List ℕ)) (bytes : List ℕ) (s : Status) → AreInputWords words → ((stamp : ℕ) → s ≡ status.StampsSpent stamp → AreRunWords words) → IsDueStatus bytes s → IsDue words bytes s
due_here words bytes status.Usage of stopped due = absurd due
due_here words bytes (status.StampsSpent stamp) of stopped due = (stopped stamp refl, due)
due_here words bytes status.ReadFault of stopped due = inl (of, due)
due_here words bytes status.OutOfMemory of stopped due = inl (of, due)
due_here words bytes (status.Limit name number) of stopped due = inl (of, due)
due_here words bytes (status.BadBundle offset) of stopped due = inl (of, due)
due_here words bytes (status.BadTree offset) of stopped due = inl (of, due)
due_here words bytes (status.BadHost path) of stopped due = inl (of, due)
due_here words bytes status.Done of stopped due = inl (of, due)
due_here words bytes status.WriteFault of stopped due = inl (of, due)

pub due_of : (words : List (List ℕ)) (told : Option (List ℕ)) (s : Status) → AreInputWords words → ((stamp : ℕ) → s ≡ status.StampsSpent stamp → AreRunWords words)
    → IfSome told (λ bytes. IsDueStatus bytes s) → IfSome told (λ bytes. IsDue words bytes s)
due_of words told s of stopped due = follows (λ bytes. IsDueStatus bytes s) (λ bytes. IsDue words bytes s) told (λ bytes d. due_here words bytes s of stopped d) due

-- an answer of `gen` is due for its words, whatever the bytes are
gen_here : (words : List (List ℕ)) (bytes : List ℕ) (s : Status) → AreAnyGenWords words → IsOfGen s → IsDue words bytes s
gen_here words bytes status.Done gen of = inr (gen, of)
gen_here words bytes status.WriteFault gen of = inr (gen, of)
gen_here words bytes status.OutOfMemory gen of = inr (gen, of)
gen_here words bytes s gen of = absurd of

pub gen_due : (words : List (List ℕ)) (told : Option (List ℕ)) (s : Status) → AreAnyGenWords words → IsOfGen s → IfSome told (λ bytes. IsDue words bytes s)
gen_due words told s gen of = always (λ bytes. IsDue words bytes s) told (λ bytes. gen_here words bytes s gen of)

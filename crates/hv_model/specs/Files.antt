-- The component of the files: what it asks of a step, and what a step leaves.
use Rattle.std.specs.Prelude.{◌≡◌, ◌⊎◌, ℕ, ◌/◌, Result, Ok, Err, Option, None, Some, List, length}
use Rattle.std.specs.Prelude.{map as map_list}
use Rattle.hv_text.specs.Lines.{script_lines}
pub use Rattle.hv_files.specs.FileMap.{FileMap, read_file, list_folder, made_folder, with_file, without}
use Rattle.hv_files.specs.FileMap.{load_files as load_pairs}
use Rattle.hv_files.specs.declared.refusal.FileRefusal.{FileRefusal}
use Rattle.hv_files.specs.declared.refusal.FileRefusal.TheVariants as file
use Rattle.hv_bundle.specs.declared.file.File.{File}
use Rattle.hv_asm.specs.Assembly.{IsAssembled, HasBadLine}
use Rattle.hv_asm.specs.Image.{image_of}
use Rattle.hv_dtree.specs.declared.node.Node.{Node}
use Rattle.hv_dts.specs.Reading.{IsSourceOf, IsRefusedAt}
use Rattle.hv_step.specs.declared.step.Step.{Step}
use Rattle.hv_step.specs.declared.step.Step.TheVariants as step
use Rattle.hv_answer.specs.declared.reply.Reply.{Reply}
use Rattle.hv_answer.specs.declared.reply.Reply.TheVariants as reply
use Rattle.hv_refusal.specs.declared.refusal.Refusal.{Refusal}
use Rattle.hv_refusal.specs.declared.refusal.Refusal.TheVariants as refusal
use Rattle.hv_model.specs.Entry.{Carry}

-- The map of a bundle's files has each of them, with the folders on the way.
abbrev pub load_files : List File → FileMap
load_files files = load_pairs (map_list (λ (f : File). (f.path, f.bytes)) files)

-- A refusal of the files, as a step's reply shows it; the definitions of the files give no want of memory.
abbrev pub refusal_of : FileRefusal → Refusal
refusal_of file.NoEntry = refusal.NoEntry
refusal_of file.NotDir = refusal.NotDir
refusal_of file.IsDir = refusal.IsDir
refusal_of file.Exists = refusal.Exists
refusal_of file.NotEmpty = refusal.NotEmpty
refusal_of (file.Memory e) = refusal.NoEntry

-- What the files give, as a step's reply shows it.
abbrev pub answered : {A : Type 0} → Result A FileRefusal → Result A Refusal
answered (Ok given) = Ok given
answered (Err why) = Err (refusal_of why)

-- Whether the files change, as a step's reply shows it.
abbrev pub done : Result FileMap FileRefusal → Result (Unit {0}) Refusal
done (Ok m) = Ok tt
done (Err why) = Err (refusal_of why)

-- The changed files, or those before where the change is refused.
abbrev pub changed : FileMap → Result FileMap FileRefusal → FileMap
changed m (Ok new) = new
changed m (Err why) = m

-- A script that is run is found with its number of lines, unless too many scripts are open or it has too many lines;
-- where it is not found, the reply says why, unless too many scripts are open.
abbrev pub FindsScript : Result (List ℕ) FileRefusal → Result (List ℕ) Refusal → Option ℕ → Type 0
FindsScript (Ok bytes) r lines =
    (lines ≡ Some (length (script_lines bytes)))
    × ((r ≡ Ok bytes) ⊎ ((r ≡ Err refusal.TooDeep) ⊎ (r ≡ Err refusal.TooLong)))
FindsScript (Err why) r lines = (lines ≡ None) × ((r ≡ Err (refusal_of why)) ⊎ (r ≡ Err refusal.TooDeep))

-- A file that is a device tree source is answered by its own bytes, and another by where it is refused; where there is
-- no file, the reply says why.
abbrev pub AnswersSource : Result (List ℕ) FileRefusal → Result (List ℕ) Refusal → Type 0
AnswersSource (Ok bytes) (Ok given) = (given ≡ bytes) × (tree : Node) × IsSourceOf bytes tree
AnswersSource (Ok bytes) (Err (refusal.BadTree offset)) = IsRefusedAt bytes offset
AnswersSource (Ok bytes) (Err why) = ⊥
AnswersSource (Err why) r = r ≡ Err (refusal_of why)

-- What is written where a text assembles to an image is answered by the number of its words, of four bytes each.
abbrev pub words_written : List ℕ → Result (Unit {0}) Refusal → Result ℕ Refusal
words_written image (Ok done) = Ok (length image / 4)
words_written image (Err why) = Err why

-- A text with a bad line is answered by the line's number; the image of another is written to the path.
abbrev pub AnswersText : FileMap → List ℕ → List (List ℕ) → Result ℕ Refusal → Type 0
AnswersText m text path (Err (refusal.BadAsm number)) = HasBadLine text number
AnswersText m text path answer =
    (image : List ℕ) × IsAssembled text image × (answer ≡ words_written image (done (with_file m path image)))

-- A file is assembled to a path; where there is no file, the reply says why.
abbrev pub AnswersAssembly : FileMap → Result (List ℕ) FileRefusal → List (List ℕ) → Result ℕ Refusal → Type 0
AnswersAssembly m (Ok text) path answer = AnswersText m text path answer
AnswersAssembly m (Err why) path answer = answer ≡ Err (refusal_of why)

-- The files with the image of a file's text at a path.
abbrev pub image_written : FileMap → Result (List ℕ) FileRefusal → List (List ℕ) → FileMap
image_written m (Ok text) path = changed m (with_file m path (image_of text))
image_written m (Err why) path = m

-- A file that is loaded is handed over; where there is none, the reply says why.
abbrev pub GivesFile : Result (List ℕ) FileRefusal → Reply → Carry → Type 0
GivesFile (Ok bytes) r c = c.bytes ≡ Some bytes
GivesFile (Err why) r c = (r ≡ reply.Load (Err (refusal_of why))) × (c.bytes ≡ None)

-- The files agree to a step where the reply is the one that they give.
abbrev pub FilesAgree : FileMap → Step → Reply → Carry → Type 0
FilesAgree m (step.Ls s) r c = r ≡ reply.Ls (answered (list_folder m s.path))
FilesAgree m (step.Cat s) r c = r ≡ reply.Cat (answered (read_file m s.path))
FilesAgree m (step.Dts s) r c =
    (answer : Result (List ℕ) Refusal) × (r ≡ reply.Dts answer) × AnswersSource (read_file m s.path) answer
FilesAgree m (step.Run s) (reply.Run r) c = FindsScript (read_file m s.path) r c.lines
FilesAgree m (step.Mkdir s) r c = r ≡ reply.Mkdir (done (made_folder m s.path))
FilesAgree m (step.Rm s) r c = r ≡ reply.Rm (done (without m s.path))
FilesAgree m (step.Write s) r c = r ≡ reply.Write (done (with_file m s.path s.bytes))
FilesAgree m (step.Asm s) r c =
    (answer : Result ℕ Refusal) × (r ≡ reply.Asm answer) × AnswersAssembly m (read_file m s.source) s.target answer
FilesAgree m (step.Load s) r c = GivesFile (read_file m s.path) r c
FilesAgree m _ r c = ⊥

-- A step leaves the files changed where it makes, removes or writes something, and is not refused; the steps that have no
-- row leave them as they are.
abbrev pub files_after : FileMap → Step → Reply → FileMap
files_after m (step.Mkdir s) r = changed m (made_folder m s.path)
files_after m (step.Rm s) r = changed m (without m s.path)
files_after m (step.Write s) r = changed m (with_file m s.path s.bytes)
files_after m (step.Asm s) (reply.Asm (Ok count)) = image_written m (read_file m s.source) s.target
files_after m (step.Asm s) r = m
files_after m (step.Ls s) r = m
files_after m (step.Cat s) r = m
files_after m (step.Dts s) r = m
files_after m (step.Run s) r = m
files_after m _ r = m

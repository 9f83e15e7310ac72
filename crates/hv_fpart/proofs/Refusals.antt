-- What is due is what a reply shows.
use Rattle.std.proofs.Common.{◌≡◌, ℕ, List, Ok, Err, Result, ap, sym, ◌∙◌}
use Rattle.hv_asm.specs.Assembly.{IsAssembled}
use Rattle.hv_asm.proofs.Images.{image_is}
use Rattle.hv_files.specs.FileMap.{FileMap, with_file}
use Rattle.hv_files.specs.Outcome.{IsDueOrMemory}
use Rattle.hv_files.specs.declared.refusal.FileRefusal.{FileRefusal}
use Rattle.hv_files.specs.declared.refusal.FileRefusal.TheVariants as file
use Rattle.hv_refusal.specs.declared.refusal.Refusal.{Refusal}
use Rattle.hv_model.specs.Files.{answered, done, changed, refusal_of, image_written}
use Rattle.hv_fpart.specs.Part.{IsShownAs}

-- a refusal that is shown is the one that is due
pub due-shown : {A : Type 0} (due : Result A FileRefusal) (r : FileRefusal) (why : Refusal) → IsDueOrMemory due r → IsShownAs r why → due ≡ Err r
due-shown due file.NoEntry why is shown = is
due-shown due file.NotDir why is shown = is
due-shown due file.IsDir why is shown = is
due-shown due file.Exists why is shown = is
due-shown due file.NotEmpty why is shown = is
due-shown due (file.Memory e) why is shown = absurd shown

pub shown-is : (r : FileRefusal) (why : Refusal) → IsShownAs r why → why ≡ refusal_of r
shown-is file.NoEntry why shown = shown
shown-is file.NotDir why shown = shown
shown-is file.IsDir why shown = shown
shown-is file.Exists why shown = shown
shown-is file.NotEmpty why shown = shown
shown-is (file.Memory e) why shown = absurd shown

pub answered-shown : {A : Type 0} (due : Result A FileRefusal) (r : FileRefusal) (why : Refusal) → IsDueOrMemory due r → IsShownAs r why → Err why ≡ answered due
answered-shown due r why is shown = ap Err (shown-is r why shown) ∙ ap answered (sym (due-shown due r why is shown))

pub done-shown : (due : Result FileMap FileRefusal) (r : FileRefusal) (why : Refusal) → IsDueOrMemory due r → IsShownAs r why → Err why ≡ done due
done-shown due r why is shown = ap Err (shown-is r why shown) ∙ ap done (sym (due-shown due r why is shown))

pub changed-shown : (m n : FileMap) (due : Result FileMap FileRefusal) (r : FileRefusal) (why : Refusal) → IsDueOrMemory due r → IsShownAs r why → n ≡ m → n ≡ changed m due
changed-shown m n due r why is shown same = same ∙ ap (changed m) (sym (due-shown due r why is shown))

-- a text's image is written
pub image-written : (m n : FileMap) (found : Result (List ℕ) FileRefusal) (text image : List ℕ) (path : List (List ℕ)) → found ≡ Ok text → IsAssembled text image
    → n ≡ changed m (with_file m path image) → n ≡ image_written m found path
image-written m n found text image path is assembled written =
    written
    ∙ ap (λ (bytes : List ℕ). changed m (with_file m path bytes)) (image_is text image assembled)
    ∙ ap (λ (f : Result (List ℕ) FileRefusal). image_written m f path) (sym is)

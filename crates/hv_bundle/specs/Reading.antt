-- What the readers of a bundle and its parts answer.
use Rattle.std.specs.Prelude.{◌≡◌, ◌≢◌, ℕ, ◌<◌, ◌^◌, ◌≤◌, List, ◌++◌, length, drop, Option, Some, None, Result, Ok, Err, Vec}
use Rattle.std.specs.declared.alloc.Global.{Global}
use Rattle.std.specs.Fmt.{decimal}
use Rattle.hv_text.specs.Path.{ArePathNames, path_text}
use Rattle.hv_bundle.specs.declared.file.File.{File}
use Rattle.hv_bundle.specs.declared.refusal.BundleRefusal.{BundleRefusal}
use Rattle.hv_bundle.specs.declared.refusal.BundleRefusal.TheVariants as refusal
use Rattle.hv_bundle.specs.Bundle.{IsFile, item_text, IsBadAt}

-- the text is that of these names, at least one, or of no such names
abbrev pub IsPathText : List ℕ → Option (List (List ℕ)) → Type 0
IsPathText text None = (names : List (List ℕ)) → ArePathNames names → 0 < length names → text ≢ path_text names
IsPathText text (Some names) = ArePathNames names × (0 < length names) × (text ≡ path_text names)

-- the text is the decimal form of this number of 64 bits, or of no such number
abbrev pub IsLengthText : List ℕ → Option ℕ → Type 0
IsLengthText text None = (n : ℕ) → n < 2 ^ 64 → text ≢ decimal n
IsLengthText text (Some n) = (n < 2 ^ 64) × (text ≡ decimal n)

-- the text begins with the item of this file, which has so many bytes, or with no item
abbrev pub IsItemAt : List ℕ → Option (File × ℕ) → Type 0
IsItemAt text None = (file : File) (rest : List ℕ) → IsFile file → text ≢ item_text file ++ rest
IsItemAt text (Some found) = IsFile found.0 × (found.1 ≤ length text) × (0 < found.1) × (text ≡ item_text found.0 ++ drop found.1 text)

-- what was read is these files, unless memory ran out
abbrev pub Reads : Result (Vec File Global) BundleRefusal → List File → Type 0
Reads (Ok found) files = found.items ≡ files
Reads (Err (refusal.BadBundle offset)) files = ⊥
Reads (Err (refusal.Memory e)) files = Unit {0}

-- a refusal for the text's sake carries the offset at which the text stops being a bundle
abbrev pub RefusesRightly : Result (Vec File Global) BundleRefusal → List ℕ → Type 0
RefusesRightly (Ok found) text = Unit {0}
RefusesRightly (Err (refusal.BadBundle offset)) text = IsBadAt text offset
RefusesRightly (Err (refusal.Memory e)) text = Unit {0}

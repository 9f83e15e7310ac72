-- What `gen` writes.
use Rattle.std.specs.Prelude.{ℕ, List, ◌++◌}
use Rattle.hv_bundle.specs.Bundle.{magic, items_text, ending}
use Rattle.hv_gen.specs.Generated.{generated_files}

-- the bundle of the files that are made of a number
unfoldable pub gen_text : ℕ → List ℕ
gen_text number = magic ++ (items_text (generated_files number) ++ ending)

-- Maps from labels as links.
use Rattle.std.specs.Prelude.{List, [], ◌∷◌, Bool, true, false}
use Rattle.std.specs.Ordering.{nat_cmp}
use Rattle.std.specs.Option.{unwrap_or}
use Rattle.std.specs.Cmp.Lexicographic.{slice_cmp}
use Rattle.std.specs.BTreeMap.{get}
use Rattle.hv_dts.specs.Bytes.{Links}
use Rattle.hv_dts.specs.declared.values.LinkMaps.{LinkMaps}

-- what the labels in maps lead to
abbrev pub links_in : LinkMaps → Links
links_in maps = record {
  number = λ label. unwrap_or (get (slice_cmp nat_cmp) maps.numbers label) 0;
  path = λ label. unwrap_or (get (slice_cmp nat_cmp) maps.paths label) [];
}

-- whether a list is empty
abbrev pub is_nil : {X : Type 0} → List X → Bool
is_nil [] = true
is_nil (x ∷ xs) = false

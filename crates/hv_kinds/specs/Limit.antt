-- The limits of a run.
use Rattle.std.specs.Prelude.{ℕ, List, codes}
use Rattle.hv_kinds.specs.declared.limit.LimitName.{LimitName}
use Rattle.hv_kinds.specs.declared.limit.LimitName.TheVariants.{Bytes, Files, Depth, Lines, Nest, Areas, Guests}

-- the word for a limit is its name in lower case
abbrev pub limit_word : LimitName → List ℕ
limit_word Bytes = codes "bytes"
limit_word Files = codes "files"
limit_word Depth = codes "depth"
limit_word Lines = codes "lines"
limit_word Nest = codes "nest"
limit_word Areas = codes "areas"
limit_word Guests = codes "guests"

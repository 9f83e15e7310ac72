-- Steps for numbers, one more at a time.
use Rattle.std.proofs.Common.{◌≡◌, ℕ, ◌+◌, ◌++◌, ap, add-one}
use Rattle.hv_programs.specs.declared.ask.Numbered.{Numbered}
use Rattle.hv_programs.specs.Ask.{each_of, numbered, one_of}

-- one number more has one step more
pub each_more : (kind : Numbered) (n : ℕ) → each_of kind (n + 1) ≡ each_of kind n ++ one_of (numbered kind n)
each_more kind n = ap (each_of kind) (add-one n)

-- What a call ensures at Ok, behind a `map_err`.
use Rattle.std.proofs.Common.{◌≡◌, true, Result, Ok, Err}
use Rattle.std.specs.Prelude.{is_ok, OnOk}

pub on_ok : {T E P : Type 0} (r : Result T E) → true ≡ is_ok r → OnOk r P → P
on_ok (Ok x) is h = h
on_ok (Err e) is h = absurd cc

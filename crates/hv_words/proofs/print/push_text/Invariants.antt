use Rattle.std.proofs.Common.{◌≡◌, ◌++◌, take}
use Rattle.std.specs.List.{flat_map}
use Rattle.hv_words.specs.Print.{byte_text}
use Rattle.hv_words.proofs.print.push_text.Given as goal

abbrev pub invariant-loop-byte : goal.invariant-loop-byte
invariant-loop-byte l = l.to ≡ l.initial.to ++ flat_map byte_text (take l.byte-index l.bytes)

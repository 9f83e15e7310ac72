use Rattle.std.proofs.Common.{List, ℕ, drop}
use Rattle.hv_dts.specs.Linking.{AreAsked}
use Rattle.hv_dts.proofs.Links.{Linked}
use Rattle.hv_dts.proofs.linking.link.Given as goal

abbrev pub invariant-loop-at : goal.invariant-loop-at
invariant-loop-at l = (cells paths : List (List ℕ)) (used : List ℕ) → AreAsked l.asked cells paths used → Linked cells paths used l.linking (drop l.at l.entries) l.entries

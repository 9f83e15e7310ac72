-- The steps of a line are of VCPUs that the board or a guest can have.
use Rattle.std.proofs.Common.{ℕ, zero, suc, ◌+◌, ◌<◌, ◌≤◌, Bool, true, false, if◌then◌else◌, List, [], ◌∷◌, ◌++◌, get_or, length, replicate, arith}
use Rattle.std.specs.Prelude.{Some, None}
use Rattle.hv_kinds.specs.declared.stage.Stage.TheVariants.{Making, Made, Ending}
use Rattle.hv_region.specs.declared.plan.RegionPlan.{RegionPlan}
use Rattle.hv_text.specs.declared.limits.TheConstants.{GUEST_VCPUS, VCPUS}
use Rattle.hv_rules.specs.Line as line
use Rattle.hv_rules.specs.Line.{Ask, Asked, each, of_rows, steps_of}
use Rattle.hv_programs.specs.Line.{IsAsk, AreAsks}

are-append : (xs ys : List Ask) → AreAsks xs → AreAsks ys → AreAsks (xs ++ ys)
are-append [] ys a b = b
are-append (x ∷ xs) ys a b = (a.0, are-append xs ys a.1 b)

-- what is one at each number below a bound is one for each number below a count
are-each : (ask : ℕ → Ask) (count most : ℕ) → count ≤ most → ((n : ℕ) → n < most → IsAsk (ask n)) → AreAsks (each ask count)
are-each ask zero most h are = tt
are-each ask (suc n) most h are =
    are-append (each ask n) (ask n ∷ []) (are-each ask n most (omega arith) are) (are n (omega arith), tt)

are-if : (ask : ℕ → Ask) (b : Bool) (row : ℕ) → IsAsk (ask row) → AreAsks (if b then ask row ∷ [] else [])
are-if ask true row is = (is, tt)
are-if ask false row is = tt

-- what is one at each row is one for each region that is chosen
are-rows : (ask : ℕ → Ask) (chosen : RegionPlan → Bool) (row : ℕ) (regions : List RegionPlan) → ((n : ℕ) → IsAsk (ask n)) → AreAsks (of_rows ask chosen row regions)
are-rows ask chosen row [] are = tt
are-rows ask chosen row (region ∷ regions) are =
    are-append (if chosen region then ask row ∷ [] else []) (of_rows ask chosen (row + 1) regions)
    (are-if ask (chosen region) row (are row))
    (are-rows ask chosen (row + 1) regions are)

are-rests : (count : ℕ) → AreAsks (replicate count line.rest)
are-rests zero = tt
are-rests (suc n) = (tt, are-rests n)

-- the steps of a line are of VCPUs that the board or its guest can have, where its plan has no more
pub steps_are : (asked : Asked) (vcpus : ℕ) (regions : List RegionPlan) → vcpus ≤ GUEST_VCPUS → AreAsks (steps_of asked vcpus regions)
steps_are (line.rests count) vcpus regions h = are-rests count
steps_are line.looks vcpus regions h = are-each line.look VCPUS VCPUS (omega arith) (λ n below. below)
steps_are (line.create name) vcpus regions h =
    let built : List Ask = of_rows line.add line.is_built 0 regions in
    let aliases : List Ask = of_rows line.add line.is_built_alias 0 regions in
    let added : List Ask = each line.add_vcpu vcpus in
    are-append (line.claim ∷ [] ++ built ++ aliases ++ added) (line.turn Making (Some Made) ∷ [])
    (are-append (line.claim ∷ [] ++ built ++ aliases) added
    (are-append (line.claim ∷ [] ++ built) aliases
    (are-append (line.claim ∷ []) built (tt, tt) (are-rows line.add line.is_built 0 regions (λ n. tt)))
    (are-rows line.add line.is_built_alias 0 regions (λ n. tt)))
    (are-each line.add_vcpu vcpus GUEST_VCPUS h (λ n below. below)))
    (tt, tt)
steps_are (line.destroy name) vcpus regions h =
    let dropped : List Ask = each line.drop_vcpu vcpus in
    let owned : List Ask = of_rows (line.drop Ending) line.is_owned 0 regions in
    are-append (line.turn Made (Some Ending) ∷ [] ++ dropped ++ owned) (line.turn Ending None ∷ [])
    (are-append (line.turn Made (Some Ending) ∷ [] ++ dropped) owned
    (are-append (line.turn Made (Some Ending) ∷ []) dropped (tt, tt) (are-each line.drop_vcpu vcpus GUEST_VCPUS h (λ n below. below)))
    (are-rows (line.drop Ending) line.is_owned 0 regions (λ n. tt)))
    (tt, tt)
steps_are (line.each_vcpu line.reset name) vcpus regions h =
    are-append (each (line.change line.reset) vcpus) (of_rows line.reset_device line.has_device 0 regions)
    (are-each (line.change line.reset) vcpus GUEST_VCPUS h (λ n below. below))
    (are-rows line.reset_device line.has_device 0 regions (λ n. tt))
steps_are (line.each_vcpu asked name) vcpus regions h = are-each (line.change asked) vcpus GUEST_VCPUS h (λ n below. below)

-- each of these steps is one
pub ask_at : (steps : List Ask) (n : ℕ) (d : Ask) → AreAsks steps → n < length steps → IsAsk (get_or steps n d)
ask_at [] n d are h = absurd (omega arith)
ask_at (a ∷ steps) zero d are h = are.0
ask_at (a ∷ steps) (suc n) d are h = ask_at steps n d are.1 (omega arith)

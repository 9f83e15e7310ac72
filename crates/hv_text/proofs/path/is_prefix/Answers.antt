use Rattle.std.proofs.Common.{refl, sym, ◌∙◌, arith, [], length, drop}
use Rattle.std.proofs.lemmas.Bool.{false≢true, not-true, both_ways}
use Rattle.std.proofs.lemmas.List.Prefix.{front_from_reads}
use Rattle.std.proofs.lemmas.Slice.Eq.{bytes_eq-Decides}
use Rattle.hv_text.proofs.Names.{front_agrees}
use Rattle.hv_text.proofs.path.is_prefix.Goals as goal

pub returns-then-ne : goal.returns-then-ne
returns-then-ne c =
    let one = c.as_slice.result.now in
    let other = c.as_slice-in-loop-place.result.now in (
      λ t. absurd (false≢true t),
      λ front.
          let same = c.as_slice.ensures ∙ front_agrees c.args.one.now c.args.other.now c.loop-place.place c.index-one-place.result c.index-other-place.result c.loop-place-test.true c.if-one-other.false c.index-one-place.is c.index-other-place.is front ∙ sym c.as_slice-in-loop-place.ensures in
          absurd (both_ways _ (not-true _ (sym c.if-ne.ensures)) ((bytes_eq-Decides one other).1 same)),
    )

pub returns : goal.returns
returns c =
    let one = c.args.one.now in
    let other = c.args.other.now in (
      λ _. (drop (length one) other, front_from_reads [] other one c.if-one-other.false (λ i lt. sym (c.loop-place.invariant i (omega arith)))),
      λ _. refl,
    )

use Rattle.std.proofs.Common.{◌<◌, arith, rules, length, length-drop}
use Rattle.std.proofs.lemmas.List.Elements.{All-more}
use Rattle.hv_region.specs.Windows.{start_of}
use Rattle.hv_region.proofs.Places.{all_behind, nowhere}
use Rattle.hv_region.proofs.list.place_for.Goals as goal

pub returns-then-start : goal.returns-then-start
returns-then-start c = record {
  within = c.loop-place.auto.place-end;
  before = c.loop-place.invariant;
  behind = all_behind c.args.windows.now c.args.window.now c.loop-place.place nowhere c.requires.windows c.loop-place-test.true (omega arith);
}

pub loop-place-preserved : goal.loop-place-preserved
loop-place-preserved c = All-more (λ there. start_of there < start_of c.args.window.now) c.args.windows.now c.loop-place.place nowhere c.loop-place-test.true c.loop-place.invariant (omega arith)

pub returns : goal.returns
returns c = record {
  within = omega arith;
  before = search rules;
  behind = λ k d lt. absurd (omega (arith, length-drop (length c.args.windows.now) c.args.windows.now));
}

use Rattle.std.proofs.Common.{List, ℕ, [], ap, subst}
use Rattle.hv_dts.specs.Resolved.{AreGiven}
use Rattle.hv_dts.specs.Linking.{sites_from}
use Rattle.hv_dts.proofs.Links.{linked_more, linked_all}
use Rattle.hv_dts.proofs.linking.link.Goals as goal

pub loop-at-init : goal.loop-at-init
loop-at-init c = λ cells paths used asked. record {
  nodes = [];
  leads = c.new-linking.ensures.leads paths;
  small = tt;
  sites = ap (λ (a : List (List ℕ)). sites_from a c.args.entries.now) c.new-linking.ensures.around;
  fresh = λ more given are. subst (λ (n : ℕ). AreGiven cells used n more given) c.new-linking.ensures.next are;
}

pub loop-at-preserved : goal.loop-at-preserved
loop-at-preserved c = λ cells paths used asked.
    linked_more cells paths used c.loop-at.linking c.take.new.self c.args.entries.now c.split_at.result.1.now c.loop-at.at c.index-entries-at.result c.loop-at-test.true c.index-entries-at.is c.split_at.ensures.back
    (λ nodes leads. c.in_ok-take.ensures cells paths used nodes asked leads) (c.loop-at.invariant cells paths used asked)

pub returns : goal.returns
returns c = λ cells paths used asked.
    linked_all cells paths used c.loop-at.linking c.args.entries.now c.loop-at.at c.loop-at-test.false (c.loop-at.invariant cells paths used asked)

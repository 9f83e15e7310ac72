use Rattle.std.proofs.Common.{◌≡◌, ℕ, List, [], ◌∷◌, ◌++◌, subst, sym, ap, ◌∙◌}
use Rattle.std.specs.Prelude.{Option, Some, None}
use Rattle.hv_text.specs.Path.{path_text}
use Rattle.hv_dtree.specs.Nodes.{name_of}
use Rattle.hv_plan.specs.Properties.{first_of}
use Rattle.hv_plan.specs.Links.{link_of, link_causes, causes_of_link}
use Rattle.hv_plan.specs.Guests.{faults_from, in_regions}
use Rattle.hv_plan.specs.Reading.{Tells}
use Rattle.hv_plan.proofs.Faults.{fault_here, told, none_first, pass_one, mapped_at}
use Rattle.hv_plan.proofs.guest.check_links.Goals as goal

pub returns-in-Some : goal.returns-in-Some
returns-in-Some c =
    let guest = c.args.guest.now in
    let nodes = c.args.nodes.now in
    let node = c.index-nodes-row.result in
    let causes = link_causes (Some c.args.aspace.now) nodes in
    let faults = faults_from (in_regions guest) name_of causes 0 nodes in
    let link = mapped_at (link_of (Some c.args.aspace.now) nodes) nodes c.args.links.now c.loop-row.row node None c.requires c.loop-row-test.true c.index-nodes-row.is in
    let links = c.requires in
    let cause_is : first_of (causes c.loop-row.row node) ≡ Some c.in-Some.cause =
    sym (c.in-Some.ensures ∙ (ap (λ (l : Option (ℕ × ℕ)). first_of (causes_of_link c.args.links.now c.loop-row.row node l)) link ∙ ap (λ (ls : List (Option (ℕ × ℕ))). first_of (causes_of_link ls c.loop-row.row node (link_of (Some c.args.aspace.now) nodes node))) links)) in
    let tells = subst (λ (name : List ℕ). Tells (path_text (in_regions guest ++ name ∷ []), c.in-Some.cause) c.inner_fault.result) c.as_slice.ensures c.inner_fault.ensures in
    let first = fault_here (in_regions guest) name_of causes nodes c.loop-row.row node faults c.in-Some.cause c.loop-row-test.true c.index-nodes-row.is cause_is c.loop-row.invariant in
    told faults (path_text (in_regions guest ++ name_of node ∷ []), c.in-Some.cause) c.inner_fault.result first tells

pub loop-row-preserved : goal.loop-row-preserved
loop-row-preserved c =
    let guest = c.args.guest.now in
    let nodes = c.args.nodes.now in
    let node = c.index-nodes-row.result in
    let causes = link_causes (Some c.args.aspace.now) nodes in
    let faults = faults_from (in_regions guest) name_of causes 0 nodes in
    let link = mapped_at (link_of (Some c.args.aspace.now) nodes) nodes c.args.links.now c.loop-row.row node None c.requires c.loop-row-test.true c.index-nodes-row.is in
    let links = c.requires in
    let none : first_of (causes c.loop-row.row node) ≡ None =
    sym (c.in_default.ensures ∙ (ap (λ (l : Option (ℕ × ℕ)). first_of (causes_of_link c.args.links.now c.loop-row.row node l)) link ∙ ap (λ (ls : List (Option (ℕ × ℕ))). first_of (causes_of_link ls c.loop-row.row node (link_of (Some c.args.aspace.now) nodes node))) links)) in
    pass_one (in_regions guest) name_of causes nodes c.loop-row.row node faults c.loop-row-test.true c.index-nodes-row.is (none_first (causes c.loop-row.row node) none) c.loop-row.invariant

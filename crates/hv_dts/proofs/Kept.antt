-- The tree that was built keeps the rules.
use Rattle.std.proofs.Common.{◌≡◌, List}
use Rattle.std.specs.Prelude.{None}
use Rattle.std.specs.List.{AllByRecursion, flat_map}
use Rattle.hv_dtree.specs.Nodes.{IsRoot}
use Rattle.hv_dtgram.specs.Contents.{SourceSyntax, entries_of, IsWellNamed}
use Rattle.hv_dts.specs.Rules.{broken_rule, names_of, path_references}
use Rattle.hv_dts.specs.Resolved.{asked_labels, used_numbers, root_tree}
use Rattle.hv_dts.specs.Linking.{AreLinked}
use Rattle.hv_dts.specs.Maps.{links_in}
use Rattle.hv_dtgram.specs.declared.contents.Entry.{Entry}
use Rattle.hv_dts.specs.declared.linking.Linking.{Linking}
use Rattle.hv_dts.proofs.Standing.{given_are}
use Rattle.hv_dts.proofs.Rooted.{rooted}

pub keeps_rules : (source : SourceSyntax) (entries : List Entry) (linking : Linking) → entries ≡ entries_of source → AllByRecursion IsWellNamed (entries_of source) → broken_rule source ≡ None
    → AreLinked (asked_labels entries) (names_of (flat_map path_references entries)) (used_numbers entries) linking entries → IsRoot (root_tree (links_in linking.links) source linking.given.items)
keeps_rules source entries linking are well kept linked =
    rooted (asked_labels (entries_of source)) (links_in linking.links) source linking.given.items well kept (given_are source entries linking are linked) linked.small

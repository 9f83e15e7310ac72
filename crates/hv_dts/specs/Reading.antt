-- Which texts are sources, the tree that a source stands for, and where a text that is none is refused.
use Rattle.std.specs.Prelude.{◌≡◌, ℕ, List, Some, None, Result, Ok, Err}
use Rattle.hv_dtree.specs.declared.node.Node.{Node}
use Rattle.hv_dtgram.specs.Lexed.{IsBadTokenAt, IsUnexpectedIn}
use Rattle.hv_dtgram.specs.Contents.{SourceSyntax, IsWritten}
use Rattle.hv_dts.specs.Rules.{broken_rule}
use Rattle.hv_dts.specs.Resolved.{IsTreeOf}
use Rattle.hv_dts.specs.declared.refusal.DtsRefusal.{DtsRefusal}
use Rattle.hv_dts.specs.declared.refusal.DtsRefusal.TheVariants as refusal

-- the text is a source that keeps the rules, and stands for this tree
pub record IsSourceOf (text : List ℕ) (tree : Node) : Type 0 where
  pub syntax : SourceSyntax
  pub written : IsWritten text syntax
  pub keeps : broken_rule syntax ≡ None
  pub stands : IsTreeOf syntax tree

-- the text is a source by its grammar that breaks a rule
pub record Breaks (text : List ℕ) (rule : DtsRefusal) : Type 0 where
  pub syntax : SourceSyntax
  pub written : IsWritten text syntax
  pub broken : broken_rule syntax ≡ Some rule

-- the text is refused so, which want of memory says of any text
abbrev pub IsRefusedAs : List ℕ → DtsRefusal → Type 0
IsRefusedAs text (refusal.BadToken offset) = IsBadTokenAt text offset
IsRefusedAs text (refusal.Unexpected offset) = IsUnexpectedIn text offset
IsRefusedAs text (refusal.TwiceNamed offset) = Breaks text (refusal.TwiceNamed offset)
IsRefusedAs text (refusal.BadPhandle offset) = Breaks text (refusal.BadPhandle offset)
IsRefusedAs text (refusal.NoLabel offset) = Breaks text (refusal.NoLabel offset)
IsRefusedAs text (refusal.Memory e) = Unit {0}

-- the text is no source, and is refused at an offset
pub data IsRefusedAt (text : List ℕ) (offset : ℕ) : Type 0 where
  no_token : IsBadTokenAt text offset → IsRefusedAt text offset
  unexpected : IsUnexpectedIn text offset → IsRefusedAt text offset
  twice_named : Breaks text (refusal.TwiceNamed offset) → IsRefusedAt text offset
  bad_phandle : Breaks text (refusal.BadPhandle offset) → IsRefusedAt text offset
  no_label : Breaks text (refusal.NoLabel offset) → IsRefusedAt text offset

-- the contents of a source are refused so, which want of memory says of any
abbrev pub IsRuleRefusal : SourceSyntax → DtsRefusal → Type 0
IsRuleRefusal source (refusal.BadToken offset) = ⊥
IsRuleRefusal source (refusal.Unexpected offset) = ⊥
IsRuleRefusal source (refusal.TwiceNamed offset) = broken_rule source ≡ Some (refusal.TwiceNamed offset)
IsRuleRefusal source (refusal.BadPhandle offset) = broken_rule source ≡ Some (refusal.BadPhandle offset)
IsRuleRefusal source (refusal.NoLabel offset) = broken_rule source ≡ Some (refusal.NoLabel offset)
IsRuleRefusal source (refusal.Memory e) = Unit {0}

-- what was read is this tree, unless memory ran out
abbrev pub IsOnly : Result Node DtsRefusal → Node → Type 0
IsOnly (Ok found) tree = found ≡ tree
IsOnly (Err (refusal.BadToken offset)) tree = ⊥
IsOnly (Err (refusal.Unexpected offset)) tree = ⊥
IsOnly (Err (refusal.TwiceNamed offset)) tree = ⊥
IsOnly (Err (refusal.BadPhandle offset)) tree = ⊥
IsOnly (Err (refusal.NoLabel offset)) tree = ⊥
IsOnly (Err (refusal.Memory e)) tree = Unit {0}

-- what refuses the text is what was answered, unless memory ran out
abbrev pub IsAnswer : Result Node DtsRefusal → DtsRefusal → Type 0
IsAnswer result (refusal.Memory e) = Unit {0}
IsAnswer (Ok found) (refusal.BadToken offset) = ⊥
IsAnswer (Ok found) (refusal.Unexpected offset) = ⊥
IsAnswer (Ok found) (refusal.TwiceNamed offset) = ⊥
IsAnswer (Ok found) (refusal.BadPhandle offset) = ⊥
IsAnswer (Ok found) (refusal.NoLabel offset) = ⊥
IsAnswer (Err (refusal.Memory e)) refused = Unit {0}
IsAnswer (Err found) refused = found ≡ refused

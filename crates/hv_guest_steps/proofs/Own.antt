-- A window is a region's own, or that of an alias.
use Rattle.std.proofs.Common.{◌≡◌, Bool, ap, Some, None}
use Rattle.std.specs.Prelude.{if◌then◌else◌}
use Rattle.hv_body.proofs.WindowLemmas.{eqb_false, eqb_true}
use Rattle.hv_region.specs.declared.window.Window.{Window}
use Rattle.hv_rules.specs.Space.{alias_in}

pub own_is : (window : Window) → window.owner ≡ window.target → alias_in window ≡ None
own_is window same =
    ap (λ (b : Bool). if b then None else Some (window.target, window.offset)) (eqb_true window.owner window.target same)

pub alias_is : (window : Window) → (window.owner ≡ window.target → ⊥) → alias_in window ≡ Some (window.target, window.offset)
alias_is window other =
    ap (λ (b : Bool). if b then None else Some (window.target, window.offset)) (eqb_false window.owner window.target other)

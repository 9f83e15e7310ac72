use Rattle.std.proofs.Common.{eqb-true, eq-eqb}
use Rattle.hv_words.proofs.ScriptLemmas.{over_at_end, end_where_over}
use Rattle.hv_words.proofs.script.Script.is_over.Goals as goal

pub returns : goal.returns
returns c =
    let text = c.self.inside.text in
    let offset = c.self.inside.offset in
    rw (← c.self.view_is, c.as_slice.ensures)
    ((λ is. over_at_end text offset (eqb-true _ _ is)), (λ over. eq-eqb _ _ (end_where_over text offset c.self.invariant over)))

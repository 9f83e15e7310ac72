use Rattle.std.proofs.Common.{◌≡◌, max, ap, sym, ◌∙◌, arith}
use Rattle.std.proofs.lemmas.List.{get_or_default}
use Rattle.hv_rounds.specs.Board.{at}
use Rattle.hv_rounds.specs.declared.terminal.Terminal.{Terminal}
use Rattle.hv_rounds.proofs.board.Board.step.Goals as goal

pub returns-clause-spent : goal.returns-clause-spent
returns-clause-spent c = λ n is.
    let found = c.take_step.ensures.spent n is in
    record {
      last = found.0;
      terminal = c.args.number;
      is_one = c.requires.is_one;
      left = c.requires.left;
      found = λ d.
          let same : at c.args.self.now c.args.number d ≡ c.index_mut.result.now = get_or_default c.args.self.now.terminals.items c.args.number d c.index_mut.result.now (omega (arith, c.args.self.now.four)) ∙ sym c.index_mut.ensures.value in
          ap (λ (u : Terminal). max u.stamp c.args.self.now.files.stamp) same ∙ found.1;
    }

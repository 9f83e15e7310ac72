use Rattle.std.proofs.Common.{refl, ◌∙◌}
use Rattle.xvsim.proofs.run.start_of.Goals as goal

pub returns-clause-opening : goal.returns-clause-opening
returns-clause-opening c = record {
  files_are = c.from_vec.ensures;
  turns = refl;
  scripts = c.from_vec-4.ensures ∙ c.requires.scripts;
  board = c.args.input.board;
  says = c.requires.board;
  on_board = record { harts = refl; areas = c.from_vec-2.ensures; plans = c.from_vec-3.ensures };
}

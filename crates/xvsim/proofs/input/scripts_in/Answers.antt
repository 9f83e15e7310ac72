use Rattle.std.proofs.Common.{refl}
use Rattle.xvsim.proofs.input.scripts_in.Goals as goal

pub returns : goal.returns
returns c =
    rw (c.in_ok-push_script-5.ensures, c.in_ok-push_script-4.ensures, c.in_ok-push_script-3.ensures, c.in_ok-push_script-2.ensures, c.in_ok-push_script.ensures, c.new-scripts.ensures.items) refl

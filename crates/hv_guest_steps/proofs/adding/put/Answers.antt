use Rattle.hv_guest_steps.proofs.Entered.{put_among}
use Rattle.hv_guest_steps.proofs.adding.put.Goals as goal

pub returns : goal.returns
returns c =
    put_among c.args.windows.now c.add-added.new.self c.args.window c.add-added.result c.add-added.ensures c.at-first.ensures.rules c.requires.window
    c.requires.apart

use Rattle.std.proofs.Common.{◌≡◌, ap, ◌∙◌}
use Rattle.hv_queue.specs.Queue.{last_of}
use Rattle.hv_queue.proofs.Last.{last-read}
use Rattle.hv_queue.proofs.queue.Queue.last.Goals as goal

pub returns-clause-last : goal.returns-clause-last
returns-clause-last c =
    let was : c.deref.result.now ≡ c.args.self.now = c.deref.ensures.value ∙ c.self.view_is in
    c.copied.ensures ∙ (c.last.ensures.value ∙ (last-read c.deref.result.now ∙ ap last_of was))

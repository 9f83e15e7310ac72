use Rattle.std.proofs.Common.{◌≡◌, ◌≤◌, [], sym, subst}
use Rattle.hv_transcript.specs.Telling.{TellsOn, TranscriptKept}
use Rattle.hv_transcript.proofs.Terminals.{keeps-asked, tells-asked}
use Rattle.hv_transcript.proofs.transcript.Transcript.show.Goals as goal

pub returns-then-owes_nothing-clause-tells : goal.returns-then-owes_nothing-clause-tells
returns-then-owes_nothing-clause-tells c = λ e is answered.
    let t = c.args.terminal.now.terminal in
    let none : t.owed ≡ [] = c.owes_nothing.ensures.0 c.if-owes_nothing.true in
    let new : TranscriptKept = record {
      text = c.show_asked.new.to;
      changed = c.in_ok-self-inside.field-0.changed;
      guest = c.in_ok-self-inside.field-0.guest;
      refused = c.in_ok-self-inside.field-0.refused;
    } in
    subst (λ (old : TranscriptKept). TellsOn t old new e) c.self.view_is
    (tells-asked t c.self.inside.known c.self.inside.text c.show_asked.new.to c.in_ok-self-inside.field-0 none
    c.args.step.now c.args.reply.now c.in_ok-self-inside.ensures e is answered)

pub returns-then-owes_nothing-clause-keeps_up : goal.returns-then-owes_nothing-clause-keeps_up
returns-then-owes_nothing-clause-keeps_up c = λ carry.
    let t = c.args.terminal.now.terminal in
    let none : t.owed ≡ [] = c.owes_nothing.ensures.0 c.if-owes_nothing.true in
    keeps-asked t c.self.inside.known c.self.inside.text c.show_asked.new.to c.in_ok-self-inside.field-0 none
    c.args.step.now c.args.reply.now c.in_ok-self-inside.ensures
    (subst (λ (old : TranscriptKept). old.changed ≤ t.count) (sym c.self.view_is) c.requires.keeps_up.changed) carry

use Rattle.std.proofs.Common.{◌≡◌, ◌+◌, List, Some, ap, sym, subst, ◌∙◌}
use Rattle.std.specs.Prelude.{Option}
use Rattle.std.specs.Option.{option_copied}
use Rattle.hv_rules.specs.Line.{LineState}
use Rattle.hv_model.specs.Plans.{Planned}
use Rattle.hv_model.specs.Transcript.{changed_by}
use Rattle.hv_terminals.specs.declared.due.Begins.TheVariants as begins
use Rattle.hv_transcript.specs.Kept.{ShowsGoing}
use Rattle.hv_transcript.specs.Telling.{with_told}
use Rattle.hv_transcript.proofs.Sessions.{Gives, asked-told, first-why, no-command-can, some-line}
use Rattle.hv_transcript.proofs.asked.show_asked.Goals as goal

pub unreachable-requires : goal.unreachable-requires
unreachable-requires c =
    let t = c.args.terminal.now.terminal in
    some-line t.plans t.session c.args.step.now c.args.reply.now c.requires.next.0 (sym c.in-Nothing.is ∙ c.requires.begins)
    c.requires.next.1 (sym c.line.ensures ∙ ap option_copied c.in-None.is)

pub show_first-requires-clause-refused : goal.show_first-requires-clause-refused
show_first-requires-clause-refused c =
    first-why c.args.terminal.now.terminal.plans c.args.terminal.now.terminal.session c.in-Line.line (sym c.in-Line.is ∙ c.requires.begins)

pub show_once-requires-in-NoCommand : goal.show_once-requires-in-NoCommand
show_once-requires-in-NoCommand c =
    no-command-can c.args.terminal.now.terminal.plans c.args.terminal.now.terminal.session c.args.step.now c.args.reply.now
    c.requires.next.0 (sym c.in-NoCommand.is ∙ c.requires.begins) c.requires.next.1

pub returns-in_ok-left-in-Some : goal.returns-in_ok-left-in-Some
returns-in_ok-left-in-Some c =
    let t = c.args.terminal.now.terminal in
    let l : LineState = c.in-Some.line.now in
    let going : t.session.line ≡ Some l = sym c.line.ensures ∙ ap option_copied c.in-Some.is in
    let shows =
    subst (λ (plans : List Planned).
    ShowsGoing plans (with_told c.args.known.now.guest l) (c.args.known.now.changed + changed_by c.args.reply.now) c.args.step.now c.args.reply.now
    c.args.to.now c.show_going.new.to c.in_ok-left-in-Some.left)
    c.plans.ensures c.in_ok-left-in-Some.ensures
    in
    asked-told t.plans t.session c.args.known.now c.args.step.now c.args.reply.now c.args.to.now c.show_going.new.to
    c.in_ok-left-in-Some.left begins.Nothing (sym c.in-Nothing.is ∙ c.requires.begins) c.requires.next
    (subst (λ (line : Option LineState).
    Gives t.plans t.session c.args.known.now c.args.step.now c.args.reply.now c.args.to.now c.show_going.new.to
    c.in_ok-left-in-Some.left begins.Nothing line)
    (sym going) shows)

pub returns-in_ok-left-in-Command : goal.returns-in_ok-left-in-Command
returns-in_ok-left-in-Command c =
    let t = c.args.terminal.now.terminal in
    asked-told t.plans t.session c.args.known.now c.args.step.now c.args.reply.now c.args.to.now c.show_once.new.to
    c.in_ok-left-in-Command.left begins.Command (sym c.in-Command.is ∙ c.requires.begins) c.requires.next
    c.in_ok-left-in-Command.ensures

pub returns-in_ok-left-in-Line : goal.returns-in_ok-left-in-Line
returns-in_ok-left-in-Line c =
    let t = c.args.terminal.now.terminal in
    asked-told t.plans t.session c.args.known.now c.args.step.now c.args.reply.now c.args.to.now c.show_first.new.to
    c.in_ok-left-in-Line.left (begins.Line c.in-Line.line) (sym c.in-Line.is ∙ c.requires.begins) c.requires.next
    c.in_ok-left-in-Line.ensures

pub returns-in_ok-left-in-NoCommand : goal.returns-in_ok-left-in-NoCommand
returns-in_ok-left-in-NoCommand c =
    let t = c.args.terminal.now.terminal in
    asked-told t.plans t.session c.args.known.now c.args.step.now c.args.reply.now c.args.to.now c.show_once-in-NoCommand.new.to
    c.in_ok-left-in-NoCommand.left begins.NoCommand (sym c.in-NoCommand.is ∙ c.requires.begins) c.requires.next
    c.in_ok-left-in-NoCommand.ensures

use Rattle.std.proofs.Common.{Option, Some, ℕ, ap, sym, ◌∙◌}
use Rattle.hv_model.specs.Session.{goes, made_at}
use Rattle.hv_programs.specs.Line.{with_guest}
use Rattle.hv_terminals.specs.Session.{gone_on, with_task}
use Rattle.hv_terminals.specs.declared.due.Begins.TheVariants as begins
use Rattle.hv_terminals.proofs.Sessions.{begun-after, command-made, going-after, line-made, told-made}
use Rattle.hv_terminals.proofs.session.Session.took.Goals as goal

pub returns-in-Nothing : goal.returns-in-Nothing
returns-in-Nothing c = λ plans carry is guest.
    c.go_on.ensures
    ∙ ap (λ (g : Option (ℕ × ℕ)). gone_on c.args.self.now.session.line c.args.self.now.session c.args.reply.now (with_guest g)) (sym guest)
    ∙ going-after plans c.args.self.now.session c.args.reply.now carry (sym c.in-Nothing.is ∙ is)

pub returns-in-Command : goal.returns-in-Command
returns-in-Command c = λ plans carry is guest.
    begun-after plans c.args.self.now.session c.args.reply.now carry c.run.new.self.session begins.Command (λ e. cc e)
    (command-made c.args.self.now.session c.run.new.self.session c.args.reply.now carry (λ b asked none some. c.run.ensures b asked carry none some))
    (sym c.in-Command.is ∙ is)

pub returns-in-Line : goal.returns-in-Line
returns-in-Line c = λ plans carry is guest.
    begun-after plans c.args.self.now.session c.args.reply.now carry c.go.new.self.session (begins.Line c.in-Line.line) (λ e. cc e)
    (line-made c.args.self.now.session c.go.new.self.session c.args.reply.now carry c.in-Line.line
    (λ b some. c.go.ensures b some ∙ ap (λ (g : Option (ℕ × ℕ)). made_at (Some (with_task (goes c.in-Line.line) b)) c.args.self.now.session c.args.reply.now (with_guest g)) (sym guest)))
    (sym c.in-Line.is ∙ is)

pub returns-in-NoCommand : goal.returns-in-NoCommand
returns-in-NoCommand c = λ plans carry is guest.
    begun-after plans c.args.self.now.session c.args.reply.now carry c.pass.new.self.session begins.NoCommand (λ e. cc e)
    (told-made c.args.self.now.session c.pass.new.self.session c.args.reply.now carry (λ b text why none some. c.pass.ensures b text why carry none some))
    (sym c.in-NoCommand.is ∙ is)

use Rattle.std.specs.Fmt.{decimal}
use Rattle.hv_data.specs.Text.{state_text}
use Rattle.hv_look.specs.Look.{register_values}
use Rattle.hv_look.proofs.Values.{shown_joined}
use Rattle.hv_look.proofs.print.look_line.Goals as goal

pub returns : goal.returns
returns c =
    let l = c.args.look.now in
    rw (c.in_ok-push_registers.ensures, c.in_ok-push_decimal-2.ensures.ok, c.in_ok-append-2.ensures.ok, c.in_ok-push_decimal.ensures.ok, c.in_ok-append.ensures.ok, c.in_ok-push_state.ensures.ok, c.from_vec-line.ensures, c.new.ensures.items)
    (shown_joined (state_text l.state) (decimal l.priority) (decimal l.slice) (register_values l.registers))

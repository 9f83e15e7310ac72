use Rattle.std.proofs.Common.{◌≡◌, List, ℕ, suc, ◌+◌, ◌++◌, ap, sym, ◌∙◌, arith}
use Rattle.std.specs.List.{flat_map, range_with_len}
use Rattle.hv_gen.specs.Numbers.{next_number, number_at}
use Rattle.hv_gen.specs.Program.{addition_line, addition_at}
use Rattle.hv_gen.proofs.Counting.{text_more}
use Rattle.hv_gen.proofs.program.push_additions.Goals as goal

pub additions-preserved : goal.additions-preserved
additions-preserved c =
    let made = c.additions._made in
    let more : made + 1 ≡ suc made = omega arith in
    let number_is : c.next_number-number.result ≡ number_at c.args.first (made + 1) =
    c.next_number-number.ensures ∙ ap next_number c.additions.invariant.number ∙ sym (ap (number_at c.args.first) more) in
    record {
      number = number_is;
      small = omega (arith, c.next_number-number.ensures);
      text =
          c.in_ok-push_addition.ensures ∙ ap (λ (t : List ℕ). t ++ addition_line c.next_number-number.result) c.additions.invariant.text
          ∙ ap (λ (k : ℕ). (c.args.to.now ++ flat_map (addition_at c.args.first) (range_with_len 1 made)) ++ addition_line k) number_is
          ∙ text_more (addition_at c.args.first) c.args.to.now 1 made (made + 1) (omega arith);
    }

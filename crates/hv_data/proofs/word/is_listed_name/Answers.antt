use Rattle.std.proofs.Common.{inr}
use Rattle.hv_data.proofs.Listed.{listed_folder}
use Rattle.hv_data.proofs.word.is_listed_name.Goals as goal

pub returns-in-Some : goal.returns-in-Some
returns-in-Some c =
    ((λ is. inr (c.in-Some.folder.now, c.is_name.ensures.0 is, c.in-Some.ensures)), (λ listed. c.is_name.ensures.1 (listed_folder c.args.entry.now c.in-Some.folder.now c.in-Some.ensures listed)))

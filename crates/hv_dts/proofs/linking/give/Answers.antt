use Rattle.std.proofs.Common.{sym, refl}
use Rattle.hv_dts.specs.Linking.{a_number}
use Rattle.hv_dts.proofs.Links.{needy_is}
use Rattle.hv_dts.proofs.linking.give.Goals as goal

pub returns-in-Some-clause-gives : goal.returns-in-Some-clause-gives
returns-in-Some-clause-gives c = λ cells used site holds numbers labels own.
    a_number c.in-Some.number (needy_is cells site c.args.own c.args.labels.now own labels (sym c.if-is_some.ensures) (sym (c.if-not-is_asked.ensures cells holds))) (c.in-Some.ensures.least used numbers) refl refl

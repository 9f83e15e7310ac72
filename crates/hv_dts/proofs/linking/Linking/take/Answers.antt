use Rattle.std.proofs.Common.{refl, sym, subst}
use Rattle.hv_dts.specs.Linking.{Steps}
use Rattle.hv_dtgram.specs.declared.contents.Entry.{Entry}
use Rattle.hv_dts.specs.declared.linking.Linking.{Linking}
use Rattle.hv_dts.proofs.Links.{popped_last}
use Rattle.hv_dts.proofs.linking.Linking.take.Goals as goal

pub returns-in-Close : goal.returns-in-Close
returns-in-Close c = λ cells paths used nodes asked leads.
    let old = c.args.self.now in
    let new : Linking = record old { around = c.pop-name.new.self } in
    subst (λ (e : Entry). Steps cells paths used old new nodes e c.args.following.now) (sym c.in-Close.is) (record {
      next = refl;
      leads = record { given = leads.given; numbers = leads.numbers; paths = leads.paths };
      around = popped_last old.around c.pop-name.new.self c.pop-name.result c.pop-name.ensures;
    })

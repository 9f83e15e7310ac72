use Rattle.std.proofs.Common.{◌+◌, sym, subst}
use Rattle.hv_body.specs.Contents.{map_device}
use Rattle.hv_body.specs.Rules.{HasForm}
use Rattle.hv_body.proofs.FormLemmas.{form_of_seen, form_seen, form_stored, reaches_seen}
use Rattle.hv_body.proofs.live.Live.write.Goals as goal

pub returns-in-Some-clause-rules : goal.returns-in-Some-clause-rules
returns-in-Some-clause-rules g c =
    let state = g.E.Emulator.state in
    let plan = c.args.self.now.plan in
    let old = c.args.self.now.contents in
    record {
      form =
          form_of_seen state plan c.write.new.self
          (subst (HasForm plan) (sym c.write.ensures.left)
          (form_stored plan (map_device state old) c.in-Some.offset c.args.place.size c.args.value
          (reaches_seen state old (c.in-Some.offset + c.args.place.size) c.in-Some.ensures.within) (form_seen state plan old c.requires.rules.form)));
      within = c.requires.rules.within;
    }

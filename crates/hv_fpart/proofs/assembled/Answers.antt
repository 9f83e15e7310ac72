use Rattle.hv_files.specs.FileMap.{read_file}
use Rattle.hv_fpart.proofs.Refusals.{image-written}
use Rattle.hv_fpart.proofs.assembled.Goals as goal

pub returns-in-Ok-2-clause-after : goal.returns-in-Ok-2-clause-after
returns-in-Ok-2-clause-after c =
    image-written c.args.files.now c.written.new.files (read_file c.args.files.now c.args.source.now) c.in-Ok.text.now c.in-Ok-image.image c.args.target.now
    c.in-Ok.ensures.ok c.in-Ok-image.ensures.given c.in_ok-written.ensures.after

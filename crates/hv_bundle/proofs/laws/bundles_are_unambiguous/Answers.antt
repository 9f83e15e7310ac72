use Rattle.hv_bundle.proofs.Fitting.{one_reading, prefix_free}
use Rattle.hv_bundle.proofs.Offsets.{one_offset}
use Rattle.hv_bundle.proofs.laws.bundles_are_unambiguous.Goals as goal

pub returns-clause-one_reading : goal.returns-clause-one_reading
returns-clause-one_reading c = one_reading

pub returns-clause-prefix_free : goal.returns-clause-prefix_free
returns-clause-prefix_free c = prefix_free

pub returns-clause-one_offset : goal.returns-clause-one_offset
returns-clause-one_offset c = one_offset

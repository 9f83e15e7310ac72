use Rattle.hv_window_laws.proofs.Runs.{windows-match-regions}
use Rattle.hv_window_laws.proofs.laws.windows_match_regions.Goals as goal

pub returns : goal.returns
returns c = windows-match-regions

use Rattle.runs.proofs.Zeros.{zeros}
use Rattle.runs.proofs.counts.Counts.none.Goals as goal

pub returns : goal.returns
returns c = zeros 40

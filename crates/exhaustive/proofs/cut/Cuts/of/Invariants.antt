use Rattle.std.proofs.Common.{◌≡◌, ◌≤◌}
use Rattle.runs.specs.Model.{counts_of}
use Rattle.exhaustive.specs.Counter.{weight}
use Rattle.exhaustive.proofs.cut.Cuts.of.Given as goal

abbrev pub invariant-loop-did : goal.invariant-loop-did
invariant-loop-did l = record { is : l.count ≡ weight (counts_of l.run.did) l.did-index; few : l.count ≤ 1000000 }

use Rattle.std.proofs.Common.{◌≡◌, ℕ, ◌-◌, ◌<◌, true, false, get_or}
use Rattle.runs.specs.Model.{counts_of}
use Rattle.exhaustive.specs.Counter.{weight}
use Rattle.exhaustive.proofs.cut.Cut.came.Given as goal

abbrev pub invariant-loop-machine : goal.invariant-loop-machine
invariant-loop-machine l = record {
  is : l.weight ≡ weight (counts_of l.self.run.now.did) l.machine;
  unmarked : (k : ℕ) → k < l.machine → 0 < counts_of l.self.counts k → get_or l.marks (l.self.number - weight (counts_of l.self.run.now.did) k) false ≡ true → ⊥;
}

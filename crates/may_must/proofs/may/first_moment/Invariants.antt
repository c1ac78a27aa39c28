use Rattle.std.proofs.Common.{◌-◌}
use Rattle.runs.specs.Model.{run_of, signs_of, counts_of}
use Rattle.order.specs.Ordering.{vectors_of}
use Rattle.order.proofs.Sizes.{size}
use Rattle.may_must.proofs.Searching.{SoFar, Passed}
use Rattle.may_must.proofs.may.first_moment.Given as goal

abbrev pub invariant-loop-machine : goal.invariant-loop-machine
invariant-loop-machine l = Passed (run_of l.ordered.run) (signs_of l.ordered.run) (vectors_of l.ordered) l.initial.search l.search l.machine

abbrev pub invariant-anew : goal.invariant-anew
invariant-anew l = SoFar (run_of l.ordered.run) (signs_of l.ordered.run) (vectors_of l.ordered) (counts_of l.search.cut) l.search.pairs

abbrev pub decreases-anew : goal.decreases-anew
decreases-anew l = size l.ordered.run.count (counts_of l.ordered.run.did) - size l.ordered.run.count (counts_of l.search.cut)

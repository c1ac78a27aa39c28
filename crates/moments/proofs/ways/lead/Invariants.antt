use Rattle.std.proofs.Common.{◌-◌, vec_items}
use Rattle.runs.specs.Model.{counts_of}
use Rattle.order.proofs.Sizes.{size}
use Rattle.moments.proofs.Trails.{Led}
use Rattle.moments.proofs.ways.lead.Given as goal

abbrev pub invariant-loop-step : goal.invariant-loop-step
invariant-loop-step l = Led l.run (counts_of l.fn.from) (counts_of l.to) l.moment (vec_items l.initial.turns) (vec_items l.turns)

abbrev pub decreases-loop-step : goal.decreases-loop-step
decreases-loop-step l = size l.run.count (counts_of l.to) - size l.run.count (counts_of l.moment.cut)

use Rattle.std.proofs.Common.{◌≡◌, ℕ, ◌-◌, ◌<◌, vec_items}
use Rattle.runs.specs.Model.{run_of, sending_of, counts_of}
use Rattle.order.specs.Rows.{vectors_in}
use Rattle.order.specs.Steps.{Done, Waits, LedTo, joined_behind}
use Rattle.order.proofs.Sizes.{size}
use Rattle.order.proofs.vectors.fill.Given as goal

-- the machines before this one can't go on, and nothing was ordered since the loop began anew
abbrev pub invariant-loop-machine : goal.invariant-loop-machine
invariant-loop-machine l =
    (l.so_far ≡ l.initial.so_far)
    × LedTo (run_of l.run) (vec_items l.turns) (counts_of l.so_far.cut)
    × Done (run_of l.run) (vectors_in l.run l.rows) (counts_of l.so_far.cut)
    × (l.so_far.pairs ≡ joined_behind l.run (counts_of l.so_far.cut))
    × ((k : ℕ) → k < l.machine → Waits (run_of l.run) (sending_of l.run) (counts_of l.so_far.cut) k)

abbrev pub invariant-anew : goal.invariant-anew
invariant-anew l =
    LedTo (run_of l.run) (vec_items l.turns) (counts_of l.so_far.cut)
    × Done (run_of l.run) (vectors_in l.run l.rows) (counts_of l.so_far.cut)
    × (l.so_far.pairs ≡ joined_behind l.run (counts_of l.so_far.cut))

abbrev pub decreases-anew : goal.decreases-anew
decreases-anew l = size l.run.count (counts_of l.run.did) - size l.run.count (counts_of l.so_far.cut)

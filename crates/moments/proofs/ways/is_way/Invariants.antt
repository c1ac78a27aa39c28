use Rattle.std.proofs.Common.{◌≡◌, drop}
use Rattle.runs.specs.Model.{run_of, counts_of}
use Rattle.moments.proofs.Trails.{Left}
use Rattle.moments.proofs.ways.is_way.Given as goal

abbrev pub invariant-loop-turn : goal.invariant-loop-turn
invariant-loop-turn l = record { run : l.moment.run.now ≡ l.run; left : Left (run_of l.run) l.turns (drop l.turn-index l.turns) (counts_of l.moment.cut) }

use Rattle.std.proofs.Common.{◌≡◌, ◌++◌, take, vec_items}
use Rattle.runs.specs.Making.{states_after}
use Rattle.runs.proofs.making.push_doings.Given as goal

abbrev pub invariant-loop-doing : goal.invariant-loop-doing
invariant-loop-doing l = vec_items l.states ≡ vec_items l.initial.states ++ states_after (take l.doing-index l.doings)

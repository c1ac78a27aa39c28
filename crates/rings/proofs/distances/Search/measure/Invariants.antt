use Rattle.std.proofs.Common.{◌-◌, ◌<◌, ◌≤◌, vec_items}
use Rattle.rings.specs.Links.{Leveled}
use Rattle.rings.proofs.distances.Search.measure.Given as goal

abbrev pub invariant-loop-k : goal.invariant-loop-k
invariant-loop-k l = record { one : 1 ≤ l.k; low : l.k < l.self.top; leveled : Leveled (vec_items l.self.links.now.of) l.self.start l.self.top l.k l.table (vec_items l.at_k) }

abbrev pub decreases-loop-k : goal.decreases-loop-k
decreases-loop-k l = l.self.top - l.k

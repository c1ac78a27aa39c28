use Rattle.std.proofs.Common.{length, vec_items}
use Rattle.rings.specs.Links.{In}
use Rattle.rings.specs.Shortest.{Shortest}
use Rattle.rings.proofs.finding.shortest.Given as goal

abbrev pub invariant-loop-t : goal.invariant-loop-t
invariant-loop-t l = Shortest (In (vec_items l.links.of)) (length (vec_items l.links.of)) l.t l.best

use Rattle.std.proofs.Common.{vec_items}
use Rattle.rings.specs.Links.{far}
use Rattle.rings.proofs.Levels.{Among, Halfway}
use Rattle.rings.proofs.distances.Search.level.Given as goal

abbrev pub invariant-loop-w : goal.invariant-loop-w
invariant-loop-w l = Halfway (vec_items l.self.links.now.of) l.self.start l.self.top l.k (far l.initial.table l.self.top) (Among l.at_k l.w-index) l.table (vec_items l.next)

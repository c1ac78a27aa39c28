use Rattle.std.proofs.Common.{◌≡◌, map, take, vec_items}
use Rattle.rings.specs.Numbers.{link_of}
use Rattle.rings.proofs.numbers.Numbers.links.Given as goal

abbrev pub invariant-loop-place : goal.invariant-loop-place
invariant-loop-place l = vec_items l.of ≡ map (link_of l.self.run.now l.self.begins) (take l.place-index (vec_items l.self.places))

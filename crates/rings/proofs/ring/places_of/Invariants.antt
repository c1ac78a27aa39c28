use Rattle.std.proofs.Common.{◌≡◌, ◌∷◌, map, take, vec_items}
use Rattle.rings.specs.Numbers.{place_of}
use Rattle.rings.proofs.ring.places_of.Given as goal

abbrev pub invariant-loop-number : goal.invariant-loop-number
invariant-loop-number l = vec_items l.ring ≡ map (place_of l.places) (l.found.start ∷ take l.number-index (vec_items l.found.rest))

-- From the links' rings to the run's.
use Rattle.std.proofs.Common.{◌≡◌, ℕ, ◌+◌, ◌<◌, List, ◌∷◌, map, length, None, vec_items, subst, arith}
use Rattle.records.specs.declared.place.Place.{Place}
use Rattle.runs.specs.declared.counts.Counts.{Counts}
use Rattle.runs.specs.declared.run.Run as code
use Rattle.runs.specs.Run.{Before}
use Rattle.runs.specs.Model.{run_of}
use Rattle.runs.proofs.Linked.{linked}
use Rattle.rings.specs.declared.finding.Found as found
use Rattle.rings.specs.declared.links.Link.{Link}
use Rattle.rings.specs.Ring.{LowestRing}
use Rattle.rings.specs.RingSearch.{Edge, AtLeast, Found}
use Rattle.rings.specs.Links.{In}
use Rattle.rings.specs.Shortest.{Searched}
use Rattle.rings.specs.Numbers.{Numbered, place_of, link_of}
use Rattle.rings.specs.Lowest.{AllBelow}
use Rattle.rings.proofs.Flat.{found_ring, none_found}
use Rattle.rings.proofs.Numbered.{flat}
use Rattle.rings.proofs.Same.{size, to_edge, from_edge, same_least, same_found, greedy_below}

module _ (r : code.Run) (places : List Place) (begins : Counts) (links : List Link) (numbered : Numbered r places begins) (is : links ≡ map (link_of r begins) places) where
  pub no_ring : Searched (In links) (length links) None → (i m : ℕ) → Before (run_of r) i m i m → ⊥
  no_ring h =
      none_found (run_of r) (linked r).range (length places) (place_of places) (flat r places begins numbered)
      (λ t lt.
      let long = size r places begins links numbered is in
      let E = Edge (run_of r) (length places) (place_of places) in
      let P : ℕ → Type 0 = λ n. AtLeast E t (n + 1) in
      subst P long (same_least (In links) E (to_edge r places begins links numbered is) (from_edge r places begins links numbered is) t (length links + 1) (h t (omega (arith, long)))))

  module _ (f : found.Found) (x : Found (In links) f.start (vec_items f.rest)) where
    pub the_ring : LowestRing (run_of r) (map (place_of places) (f.start ∷ vec_items f.rest))
    the_ring =
        found_ring (run_of r) (linked r).range (length places) (place_of places) (flat r places begins numbered) f.start (vec_items f.rest)
        (same_found (In links) (Edge (run_of r) (length places) (place_of places)) (to_edge r places begins links numbered is) (from_edge r places begins links numbered is) f.start (vec_items f.rest) x)

    pub ring_below : (f.start < length places) × AllBelow (length places) (vec_items f.rest)
    ring_below =
        let long = size r places begins links numbered is in
        let g = greedy_below links f.start x.d f.start (vec_items f.rest) x.goes in
        (omega (arith, g.0, long), λ k lt. omega (arith, g.1 k lt, long))

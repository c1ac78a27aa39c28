use Rattle.std.proofs.Common.{ℕ, List, ◌∷◌, map, length, vec_items, Option, sym, ap, ◌∙◌, subst, arith}
use Rattle.records.specs.declared.place.Place.{Place}
use Rattle.runs.specs.declared.run.Run.{Run}
use Rattle.runs.specs.Run.{Before}
use Rattle.runs.specs.Model.{run_of}
use Rattle.rings.specs.declared.finding.Found as found
use Rattle.rings.specs.Ring.{LowestRing}
use Rattle.rings.specs.Links.{In}
use Rattle.rings.specs.Shortest.{Searched}
use Rattle.rings.specs.Numbers.{place_of}
use Rattle.rings.proofs.Whole.{no_ring, the_ring, ring_below}
use Rattle.rings.proofs.ring.lowest_ring.Goals as goal

pub returns-in-None : goal.returns-in-None
returns-in-None c =
    let n = c.in_ok-numbers.numbers in
    let links = vec_items c.in_ok-links.links.of in
    let P : Run → Type 0 = λ r. (i m : ℕ) → Before (run_of r) i m i m → ⊥ in
    let Q : Option found.Found → Type 0 = λ o. Searched (In links) (length links) o in
    subst P c.in_ok-numbers.ensures (no_ring n.run.now (vec_items n.places) n.begins links n.numbered c.in_ok-links.ensures (subst Q c.in-None.is c.in_ok-lowest.ensures))

pub places_of-requires-clause-start : goal.places_of-requires-clause-start
places_of-requires-clause-start c =
    let n = c.in_ok-numbers.numbers in
    let links = vec_items c.in_ok-links.links.of in
    let Q : Option found.Found → Type 0 = λ o. Searched (In links) (length links) o in
    let b = ring_below n.run.now (vec_items n.places) n.begins links n.numbered c.in_ok-links.ensures c.in-Some.found (subst Q c.in-Some.is c.in_ok-lowest.ensures) in
    omega (arith, b.0, ap length c.deref.ensures.value)

pub places_of-requires-clause-rest : goal.places_of-requires-clause-rest
places_of-requires-clause-rest c =
    let n = c.in_ok-numbers.numbers in
    let links = vec_items c.in_ok-links.links.of in
    let Q : Option found.Found → Type 0 = λ o. Searched (In links) (length links) o in
    let b = ring_below n.run.now (vec_items n.places) n.begins links n.numbered c.in_ok-links.ensures c.in-Some.found (subst Q c.in-Some.is c.in_ok-lowest.ensures) in
    λ k lt. omega (arith, b.1 k lt, ap length c.deref.ensures.value)

pub returns : goal.returns
returns c =
    let n = c.in_ok-numbers.numbers in
    let links = vec_items c.in_ok-links.links.of in
    let f = c.in-Some.found in
    let Q : Option found.Found → Type 0 = λ o. Searched (In links) (length links) o in
    let P : Run → Type 0 = λ r. LowestRing (run_of r) (vec_items c.in_ok-places_of-in-Some.field-0) in
    let R : List Place → Type 0 = λ z. LowestRing (run_of n.run.now) z in
    let ring = the_ring n.run.now (vec_items n.places) n.begins links n.numbered c.in_ok-links.ensures f (subst Q c.in-Some.is c.in_ok-lowest.ensures) in
    subst P c.in_ok-numbers.ensures (subst R (sym (c.in_ok-places_of-in-Some.ensures ∙ ap (λ (z : List Place). map (place_of z) (f.start ∷ vec_items f.rest)) c.deref.ensures.value)) ring)

use Rattle.std.proofs.Common.{◌≡◌, ◌∙◌, sym, ap, subst, List, vec_items, length, map, arith}
use Rattle.std.proofs.lemmas.List.{take_all}
use Rattle.records.specs.declared.place.Place.{Place}
use Rattle.runs.specs.Model.{run_of}
use Rattle.rings.specs.RingSearch.{Done}
use Rattle.rings.specs.Numbers.{place_of, link_of}
use Rattle.rings.proofs.Numbered.{flat, places_few}
use Rattle.rings.proofs.Same.{size, all_within}
use Rattle.rings.proofs.numbers.Numbers.links.Goals as goal

pub link-requires-clause-machine : goal.link-requires-clause-machine
link-requires-clause-machine c =
    let n = c.args.self.now in
    let P : List Place → Type 0 = λ z. Done (run_of n.run.now) (place_of z c.loop-place.place-index) in
    (subst P (sym c.deref-place-items.ensures.value) ((flat n.run.now (vec_items n.places) n.begins n.numbered).only c.loop-place.place-index (omega (arith, ap length c.deref-place-items.ensures.value, c.loop-place-test.true)))).0

pub link-requires-clause-doing : goal.link-requires-clause-doing
link-requires-clause-doing c =
    let n = c.args.self.now in
    let P : List Place → Type 0 = λ z. Done (run_of n.run.now) (place_of z c.loop-place.place-index) in
    (subst P (sym c.deref-place-items.ensures.value) ((flat n.run.now (vec_items n.places) n.begins n.numbered).only c.loop-place.place-index (omega (arith, ap length c.deref-place-items.ensures.value, c.loop-place-test.true)))).2

pub invariant_of-result : goal.invariant_of-result
invariant_of-result c =
    let n = c.args.self.now in
    let places = vec_items n.places in
    let links = vec_items c.loop-place.of in
    let is : links ≡ map (link_of n.run.now n.begins) places = c.loop-place.invariant ∙ ap (map (link_of n.run.now n.begins)) (take_all c.loop-place.place-index places (omega (arith, ap length c.deref-place-items.ensures.value, c.loop-place-test.false))) in
    record {
      few = omega (arith, size n.run.now places n.begins links n.numbered is, places_few n.run.now places n.begins n.numbered);
      within = all_within n.run.now places n.begins links n.numbered is;
    }

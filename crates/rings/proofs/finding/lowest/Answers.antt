use Rattle.std.proofs.Common.{length, Option, vec_items, subst}
use Rattle.rings.specs.declared.finding.Best as best
use Rattle.rings.specs.Links.{In}
use Rattle.rings.specs.Shortest.{Shortest}
use Rattle.rings.proofs.Starts.{distance_is, found}
use Rattle.rings.proofs.finding.lowest.Goals as goal

pub way_back-requires-clause-reached : goal.way_back-requires-clause-reached
way_back-requires-clause-reached c =
    let links = vec_items c.args.links.now.of in
    let P : Option best.Best → Type 0 = λ o. Shortest (In links) (length links) (length links) o in
    distance_is links c.in-Some.best (subst P c.in-Some.is c.in_ok-best.ensures) c.measure.new.table c.in_ok-measure.ensures

pub returns : goal.returns
returns c =
    let links = vec_items c.args.links.now.of in
    let P : Option best.Best → Type 0 = λ o. Shortest (In links) (length links) (length links) o in
    let w = c.in_ok-rest.ensures in
    found links c.in-Some.best (subst P c.in-Some.is c.in_ok-best.ensures) c.measure.new.table c.in_ok-measure.ensures (vec_items c.in_ok-rest.rest) w.0 w.1

use Rattle.std.proofs.Common.{◌≡◌, ℕ, vec_items, subst, rules}
use borrow.Author.Tests.{tests}
use Rattle.std.proofs.lemmas.Iterator.{first_from_Range}
use Rattle.rings.specs.Links.{Lowest}
use Rattle.rings.proofs.Going.{Is, IsNot, found_next}
use Rattle.rings.proofs.distances.Search.lowest_next.Goals as goal

pub unwrap-requires : goal.unwrap-requires
unwrap-requires c =
    let s = c.args.self.now in
    let links = vec_items s.links.now.of in
    let table = c.args.table.now in
    let first = first_from_Range _ _ _ c.find.result (Is links table s.start c.args.v c.args.k) (IsNot links table s.start c.args.v c.args.k) c.find.ensures.ran (λ x q m. search (rules, tests)) (λ x q m. search (rules, tests)) in
    let e = (found_next links table s.start c.args.v c.args.k _ c.find.result c.requires.long c.requires.some first).1 in
    search rules

pub returns : goal.returns
returns c =
    let s = c.args.self.now in
    let links = vec_items s.links.now.of in
    let table = c.args.table.now in
    let first = first_from_Range _ _ _ c.find.result (Is links table s.start c.args.v c.args.k) (IsNot links table s.start c.args.v c.args.k) c.find.ensures.ran (λ x q m. search (rules, tests)) (λ x q m. search (rules, tests)) in
    let z = found_next links table s.start c.args.v c.args.k _ c.find.result c.requires.long c.requires.some first in
    let e : z.0 ≡ c.unwrap.result = cc (z.1, c.unwrap.ensures) in
    subst (λ (w : ℕ). Lowest links table s.start c.args.v c.args.k w) e z.2

use Rattle.std.proofs.Common.{◌-◌, List, ℕ, vec_items, sym, subst, arith}
use Rattle.rings.specs.Links.{Going}
use Rattle.rings.proofs.Going.{going_some, going_more, going_end}
use Rattle.rings.proofs.distances.Search.+go_on.Goals as goal

pub returns-then-k-le1 : goal.returns-then-k-le1
returns-then-k-le1 t c = let s = c.args.self.now in going_end (vec_items s.links.now.of) c.args.table.now s.start s.top c.requires.measured c.args.v c.args.k (vec_items c.args.out.now) c.requires.going c.if-k-le1.true

pub lowest_next-w-requires-clause-some : goal.lowest_next-w-requires-clause-some
lowest_next-w-requires-clause-some t c = let s = c.args.self.now in going_some (vec_items s.links.now.of) c.args.table.now s.start s.top c.requires.measured c.args.v c.args.k (vec_items c.args.out.now) c.requires.going c.if-k-le1.false

pub go_on-requires : goal.go_on-requires
go_on-requires t c =
    let s = c.args.self.now in
    let P : List ℕ → Type 0 = λ z. Going (vec_items s.links.now.of) c.args.table.now s.start s.top c.lowest_next-w.result (c.args.k - 1) z in (
      omega arith,
      (
        c.requires.measured,
        subst P (sym c.in_ok-push.ensures.items)
            (going_more (vec_items s.links.now.of) c.args.table.now s.start s.top c.requires.measured c.args.v c.args.k (vec_items c.args.out.now) c.requires.going c.if-k-le1.false c.lowest_next-w.result c.lowest_next-w.ensures),
      ),
    )

use Rattle.std.proofs.Common.{◌≡◌, length, vec_items, inl, inr, arith, rules}
use Rattle.rings.proofs.Begin.{ended}
use Rattle.rings.proofs.distances.Search.measure.Goals as goal
use Rattle.rings.proofs.distances.Search.measure.Goals.{then-loop-k-test+else-not-is_empty, else-loop-k-test}

pub returns : goal.returns
returns c =
    let s = c.args.self.now in
    let i = c.loop-k.invariant in
    ended (vec_items s.links.now.of) s.start s.top c.loop-k.k c.loop-k.table (vec_items c.loop-k.at_k) i.one i.low i.leveled
    (elim c.loop-k-test.branch [
      | then-loop-k-test+else-not-is_empty w ↦ inl (let e : length (vec_items c.loop-k.at_k) ≡ 0 = search rules in e)
      | else-loop-k-test w ↦ inr (omega (arith, w.loop-k-test.false))
    ])

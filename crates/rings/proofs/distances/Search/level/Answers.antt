use Rattle.std.proofs.Common.{vec_items, arith}
use Rattle.rings.specs.Links.{far}
use Rattle.rings.proofs.Levels.{level_more, level_done, frontier_inside}
use Rattle.rings.proofs.distances.Search.level.Goals as goal

pub into-requires-clause-inside : goal.into-requires-clause-inside
into-requires-clause-inside c =
    let s = c.args.self.now in
    let x = c.requires.leveled in
    omega (arith, x.long, frontier_inside (vec_items s.links.now.of) s.start s.top c.args.k (far c.args.table.now s.top) c.requires.next x.level c.args.table.now c.args.at_k.now c.loop-w.w-index x.frontier c.loop-w-test.true)

pub loop-w-preserved : goal.loop-w-preserved
loop-w-preserved c =
    let s = c.args.self.now in
    let x = c.requires.leveled in
    level_more (vec_items s.links.now.of) s.start s.top c.args.k (far c.args.table.now s.top) c.requires.next x.level c.args.at_k.now c.loop-w.w-index c.loop-w.table c.into.new.table (vec_items c.loop-w.next) (vec_items c.into.new.next) x.frontier c.loop-w.invariant c.loop-w-test.true
    (omega (arith, x.long, frontier_inside (vec_items s.links.now.of) s.start s.top c.args.k (far c.args.table.now s.top) c.requires.next x.level c.args.table.now c.args.at_k.now c.loop-w.w-index x.frontier c.loop-w-test.true))
    c.in_ok-into.ensures

pub returns : goal.returns
returns c =
    let s = c.args.self.now in
    let x = c.requires.leveled in
    level_done (vec_items s.links.now.of) s.start s.top c.args.k (far c.args.table.now s.top) c.requires.next x.level c.args.at_k.now c.loop-w.w-index c.loop-w.table (vec_items c.loop-w.next) x.frontier c.loop-w.invariant c.loop-w-test.false

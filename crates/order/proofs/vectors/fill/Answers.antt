use Rattle.std.proofs.Common.{vec_items, ap, arith}
use Rattle.runs.specs.Model.{counts_of}
use Rattle.runs.proofs.Linked.{linked}
use Rattle.order.specs.declared.progress.Progress.{Progress}
use Rattle.order.proofs.OneMore.{done_none}
use Rattle.order.proofs.Sizes.{size, size_le, size_on}
use Rattle.order.proofs.Joins.{joined_none}
use Rattle.order.proofs.OneTurn.{turns_none, turns_more}
use Rattle.order.proofs.vectors.fill.Goals as goal

pub anew-init : goal.anew-init
anew-init c =
    let done = done_none _ _ (linked c.args.run.now) c.none.ensures (λ j k j<. c.requires.blank j k j<) in
    (turns_none (vec_items c.args.turns.now) (counts_of c.none.result) c.requires.empty c.none.ensures done.moment, done, joined_none c.args.run.now (counts_of c.none.result) c.none.ensures)

pub anew-preserved : goal.anew-preserved
anew-preserved c =
    let told = c.in-Some.ensures in
    (turns_more (vec_items c.loop-machine.turns) (vec_items c.push.new.self) c.loop-machine.machine (counts_of c.loop-machine.so_far.cut) (counts_of c.in-Some.further.cut) c.loop-machine.invariant.1 c.in_ok-push.ensures.items c.loop-machine-test.true told.one told.others told.done.moment, told.done, told.joined)

pub anew-smaller : goal.anew-smaller
anew-smaller c =
    let run = c.args.run.now in
    let told = c.in-Some.ensures in
    let same = ap (λ (s : Progress). size run.count (counts_of s.cut)) c.loop-machine.invariant.0 in
    let more = size_on run.count (counts_of c.loop-machine.so_far.cut) (counts_of c.in-Some.further.cut) c.loop-machine.machine c.loop-machine-test.true told.one told.others in
    let most = size_le run.count (counts_of c.in-Some.further.cut) (counts_of run.did) told.done.moment.inside in
    omega (arith, same, more, most)

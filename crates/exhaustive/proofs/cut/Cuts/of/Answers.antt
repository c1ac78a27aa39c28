use Rattle.std.proofs.Common.{◌+◌, refl, ◌∙◌, arith}
use Rattle.runs.specs.Model.{counts_of}
use Rattle.exhaustive.specs.Counter.{weight}
use Rattle.exhaustive.proofs.Ranks.{weight_step, weight_up}
use Rattle.exhaustive.proofs.Counted.{taken}
use Rattle.exhaustive.proofs.cut.Cuts.of.Goals as goal

pub loop-did-init : goal.loop-did-init
unfolding weight
loop-did-init c = record { is = refl; few = omega arith }

pub returns-then-count-gt-MOST : goal.returns-then-count-gt-MOST
returns-then-count-gt-MOST c =
    let run = c.args.run.now in
    let did = counts_of run.did in
    let i = c.loop-did.did-index in
    let at = taken run.did run.count i c.loop-did-test.true in
    omega (arith, weight_step did i c.loop-did.count c.from.result c.loop-did.invariant.is (c.from.ensures ∙ at.1), weight_up did (i + 1) run.count (omega (arith, at.0)))

pub loop-did-preserved : goal.loop-did-preserved
loop-did-preserved c =
    let run = c.args.run.now in
    let i = c.loop-did.did-index in
    record {
      is = weight_step (counts_of run.did) i c.loop-did.count c.from.result c.loop-did.invariant.is (c.from.ensures ∙ (taken run.did run.count i c.loop-did-test.true).1);
      few = omega arith;
    }

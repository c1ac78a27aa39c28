use Rattle.std.proofs.Common.{sym, arith}
use Rattle.runs.specs.Model.{counts_of}
use Rattle.exhaustive.proofs.Ranks.{rank_none}
use Rattle.exhaustive.proofs.cut.Cuts.first.Goals as goal

pub invariant_of-result : goal.invariant_of-result
invariant_of-result c =
    let run = c.args.self.now.run.now in
    record {
      few = omega arith;
      inside = λ i lt. omega (arith, c.none.ensures i);
      numbered = sym (rank_none (counts_of run.did) run.count (counts_of c.none.result) (λ i lt. c.none.ensures i));
    }

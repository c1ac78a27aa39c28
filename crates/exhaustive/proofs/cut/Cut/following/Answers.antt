use Rattle.std.proofs.Common.{◌≡◌, ◌+◌, ◌<◌, length, get_or, arith}
use Rattle.runs.specs.Moment.{Cut}
use Rattle.runs.specs.Model.{run_of, counts_of}
use Rattle.exhaustive.specs.Counter.{cuts_of}
use Rattle.exhaustive.proofs.Ranks.{numbering, rank_within, last_rank, after_inside, after_rank}
use Rattle.exhaustive.proofs.Counted.{carried, carried_here, carried_below, carried_above}
use Rattle.exhaustive.proofs.cut.Cut.following.Goals as goal

pub returns-in_err-machine-clause-after : goal.returns-in_err-machine-clause-after
returns-in_err-machine-clause-after c =
    let self = c.args.self.now in
    let r = run_of self.run.now in
    let last : self.number + 1 ≡ cuts_of r = omega (arith, last_rank r (counts_of self.counts) self.inside c.in_err-machine.ensures) in
    rw c.from_residual.ensures last

pub returns-in_err-machine-clause-numbering : goal.returns-in_err-machine-clause-numbering
returns-in_err-machine-clause-numbering c = numbering (run_of c.args.self.now.run.now)

pub returns-clause-numbering : goal.returns-clause-numbering
returns-clause-numbering c = numbering (run_of c.args.self.now.run.now)

pub overflow_add-result : goal.overflow_add-result
overflow_add-result c =
    let self = c.args.self.now in
    record { fits = omega (arith, rank_within (counts_of self.run.now.did) self.run.now.count (counts_of self.counts) self.inside) }

pub invariant_of-result-2 : goal.invariant_of-result-2
invariant_of-result-2 c =
    let self = c.args.self.now in
    let r = run_of self.run.now in
    let xs = self.counts.of in
    let zs = c.fill.new.self in
    let i = c.in_ok-machine.machine in
    let low = c.in_ok-machine.ensures in
    let within : i < length xs = omega (arith, low.inside, self.counts.wide, self.run.now.most) in
    let fill = c.fill.ensures.after (λ y e. e) in
    let d : Cut = λ k. get_or (carried xs zs i within fill) k 0 in
    let here = carried_here xs zs i within fill in
    let anew = carried_below xs zs i within fill in
    let still = carried_above xs zs i within fill in
    record {
      few = self.few;
      inside = after_inside r (counts_of self.counts) d i self.inside low here anew still;
      numbered = omega (arith, self.numbered, after_rank r (counts_of self.counts) d i self.inside low here anew still);
    }

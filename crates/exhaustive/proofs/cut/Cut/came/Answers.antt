use Rattle.std.proofs.Common.{◌≡◌, ℕ, ◌+◌, ◌-◌, ◌<◌, ◌≤◌, true, false, get_or, sym, refl, ap, ◌∙◌, inl, inr, mul-le-mul, arith}
use Rattle.std.proofs.lemmas.Bool.{cases_eq, both_ways}
use Rattle.runs.specs.Model.{run_of, counts_of}
use Rattle.exhaustive.specs.Counter.{weight}
use Rattle.exhaustive.proofs.Ranks.{weight_step, weight_up, rank_within}
use Rattle.exhaustive.proofs.Counted.{taken}
use Rattle.exhaustive.proofs.Marking.{rank_back}
use Rattle.exhaustive.proofs.cut.Cut.came.Goals as goal
use Rattle.exhaustive.proofs.cut.Cut.came.Goals.{else-self-machine-gt0-via-then-self-machine-gt0+else-marks-self, else-self-machine-gt0-via-else-self-machine-gt0}

pub loop-machine-init : goal.loop-machine-init
unfolding weight
loop-machine-init c = record { is = refl; unmarked = λ k lt. absurd (omega arith) }

pub overflow_sub-self : goal.overflow_sub-self
overflow_sub-self c =
    let self = c.args.self.now in
    let run = self.run.now in
    let i = c.loop-machine.machine in
    let at = taken run.did run.count i c.loop-machine-test.true in
    omega (arith, self.numbered, c.loop-machine.invariant.is, rank_back (run_of run) (counts_of self.counts) i at.0 c.if-self-machine-gt0.true)

pub bounds-marks-self : goal.bounds-marks-self
bounds-marks-self c =
    let self = c.args.self.now in
    let r = run_of self.run.now in
    omega (arith, rank_within r.did r.count (counts_of self.counts) self.inside)

pub overflow_mul-weight : goal.overflow_mul-weight
overflow_mul-weight c =
    let self = c.args.self.now in
    let run = self.run.now in
    let did = counts_of run.did in
    let i = c.loop-machine.machine in
    let at = taken run.did run.count i c.loop-machine-test.true in
    let few : c.from.result + 1 ≤ 501 = omega (arith, run.few i at.0, at.1, c.from.ensures) in
    let most : c.loop-machine.weight ≤ 1000000 = omega (arith, c.loop-machine.invariant.is, weight_up did i run.count (omega (arith, at.0)), self.few) in
    record { fits = omega (arith, mul-le-mul most few) }

pub loop-machine-preserved : goal.loop-machine-preserved
loop-machine-preserved c =
    let self = c.args.self.now in
    let run = self.run.now in
    let did = counts_of run.did in
    let cut = counts_of self.counts in
    let i = c.loop-machine.machine in
    let marks = c.args.marks.now in
    let inv = c.loop-machine.invariant in
    let here : 0 < cut i → get_or marks (self.number - weight did i) false ≡ true → ⊥ = λ some mark.
    elim c.else-self-machine-gt0.branch [
      | else-self-machine-gt0-via-then-self-machine-gt0+else-marks-self w ↦ both_ways (get_or marks (self.number - weight did i) false) (ap (λ (x : ℕ). get_or marks (self.number - x) false) (sym inv.is) ∙ w.if-marks-self.false) mark
      | else-self-machine-gt0-via-else-self-machine-gt0 w ↦ omega (arith, w.if-self-machine-gt0.false, some)
    ] in
    record {
      is = weight_step did i c.loop-machine.weight c.from.result inv.is (c.from.ensures ∙ (taken run.did run.count i c.loop-machine-test.true).1);
      unmarked = λ k lt some mark. elim (cases_eq k i) [
        | inl e ↦ here (omega (arith, ap cut e, some)) (ap (λ (x : ℕ). get_or marks (self.number - weight did x) false) (sym e) ∙ mark)
        | inr ne ↦ inv.unmarked k (omega arith) some mark
      ];
    }

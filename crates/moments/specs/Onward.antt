-- How a run goes on from a moment that it has come to.
-- Assumes nothing.
use Rattle.std.specs.Prelude.{◌≡◌, ℕ, ◌<◌}
use Rattle.runs.specs.Model.{run_of, counts_of}
use Rattle.runs.specs.Moment.{Cut, Moment}
use Rattle.moments.specs.declared.reached.Reached.{Reached}
use Rattle.moments.specs.declared.reached.Step.{Step}
use Rattle.moments.specs.Ways.{go_on}

-- n is the moment of the same run after one machine's next doing
pub record After (m : Reached) (who : ℕ) (n : Reached) : Type 0 where
  pub run : n.run.now ≡ m.run.now
  pub cut : counts_of n.cut ≡ go_on (counts_of m.cut) who

-- a machine has no next doing on the way from a moment to a later one
abbrev pub Stays : Reached → Cut → ℕ → Type 0
Stays m to who = counts_of m.cut who < to who → Moment (run_of m.run.now) (go_on (counts_of m.cut) who) → ⊥

-- and a step is the next doing there of some machine
pub record Steps (m : Reached) (to : Cut) (step : Step) : Type 0 where
  pub inside : step.machine < m.run.now.count
  pub ahead : counts_of m.cut step.machine < to step.machine
  pub after : After m step.machine step.after

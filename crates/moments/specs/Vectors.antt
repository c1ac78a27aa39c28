-- What a doing's vector is among moments.
-- Assumes nothing.
use Rattle.std.specs.Prelude.{ℕ, ◌<◌, ◌≤◌}
use Rattle.runs.specs.Run.{Run}
use Rattle.runs.specs.Moment.{Cut, Moment}
use Rattle.order.specs.Vectors.{Vectors, VectorsOf}
use Rattle.moments.specs.Cuts.{Below}

-- the lowest moment that has doing n of machine j behind it
pub record LowestWith (r : Run) (j n : ℕ) (c : Cut) : Type 0 where
  pub moment : Moment r c
  pub behind : n ≤ c j
  pub lowest : (d : Cut) → Moment r d → n ≤ d j → Below r c d

-- Each doing's vector is that.
abbrev pub VectorsLowest : Type 0
VectorsLowest = (r : Run) (v : Vectors) → VectorsOf r v → (j n : ℕ) → j < r.count → 1 ≤ n → n ≤ r.did j → LowestWith r j n (v j n)

-- Vectors (vector clocks): of each doing, how many of every machine's doings are behind it, itself among its own machine's.
-- Assumes nothing.
use Rattle.std.specs.Prelude.{◌≡◌, ℕ, ◌<◌, ◌≤◌, ◌⊎◌}
use Rattle.runs.specs.Run.{Run, Before}
use Rattle.runs.specs.Moment.{Moment}

-- v j n i: of doing n of machine j, the count of machine i
abbrev pub Vectors : Type 0
Vectors = ℕ → ℕ → ℕ → ℕ

-- the promise of the vectors: m doings of i are behind doing n of j exactly if the m-th is that doing or comes before it; and each vector is a moment
pub record VectorsOf (r : Run) (v : Vectors) : Type 0 where
  pub inside : (j n i : ℕ) → j < r.count → i < r.count → 1 ≤ n → n ≤ r.did j → v j n i ≤ r.did i
  pub own : (j n : ℕ) → j < r.count → 1 ≤ n → n ≤ r.did j → v j n j ≡ n
  pub before : (i m j n : ℕ) → i < r.count → j < r.count → 1 ≤ m → 1 ≤ n → n ≤ r.did j → Before r i m j n → m ≤ v j n i
  pub only : (i m j n : ℕ) → i < r.count → j < r.count → 1 ≤ m → 1 ≤ n → n ≤ r.did j → m ≤ v j n i → Before r i m j n ⊎ ((i ≡ j) × (m ≡ n))
  pub moment : (j n : ℕ) → j < r.count → 1 ≤ n → n ≤ r.did j → Moment r (v j n)

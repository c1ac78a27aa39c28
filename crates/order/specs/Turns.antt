-- Topological orders of a run's doings: the machines in turn, each time with its next doing.
-- Assumes nothing.
use Rattle.std.specs.Prelude.{◌≡◌, ℕ, ◌+◌, ◌<◌, ◌≤◌, cond, List, [], ◌∷◌, length, take, ◌==◌, slice_index}
use Rattle.runs.specs.Run.{Run}
use Rattle.runs.specs.Moment.{Cut, Moment}

-- how often it was a machine's turn, so how many of its doings are behind
abbrev pub turns_of : List ℕ → Cut
turns_of [] i = 0
turns_of (j ∷ js) i = cond (i == j) 1 0 + turns_of js i

-- each turn leads from a moment to a moment: no doing has its turn ahead of one that comes before it
pub record InTurn (r : Run) (js : List ℕ) : Type 0 where
  pub machines : (n : ℕ) → n < length js → slice_index js n < r.count
  pub moments : (n : ℕ) → n ≤ length js → Moment r (turns_of (take n js))

-- and each doing has its turn
pub record Topological (r : Run) (js : List ℕ) : Type 0 where
  pub turns : InTurn r js
  pub all : (i : ℕ) → i < r.count → turns_of js i ≡ r.did i

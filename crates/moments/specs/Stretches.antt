-- Stretches (intervals): what shows that there must have been a moment of all yes.
-- Assumes nothing.
use Rattle.std.specs.Prelude.{◌≡◌, ℕ, ◌+◌, ◌<◌, ◌≤◌, true, ◌⊎◌, ◌≢◌}
use Rattle.runs.specs.Run.{Run, Before}
use Rattle.moments.specs.Signs.{Says}

-- from how many to how many doings of a machine
pub record Stretch : Type 0 where
  pub from : ℕ
  pub to : ℕ

-- in each stretch the sign is yes throughout, and each begins, as doings come, before any other ends
pub record Held (r : Run) (s : Says) (t : ℕ → Stretch) : Type 0 where
  pub inside : (i : ℕ) → i < r.count → ((t i).from ≤ (t i).to) × ((t i).to ≤ r.did i)
  pub throughout : (i m : ℕ) → i < r.count → (t i).from ≤ m → m ≤ (t i).to → s i m ≡ true
  -- i's begins with 0, or j's goes to its last doing, or the doing that begins i's comes before the one that ends j's
  pub meet : (i j : ℕ) → i < r.count → j < r.count → (i ≢ j) → ((t i).from ≡ 0) ⊎ (((t j).to ≡ r.did j) ⊎ Before r i (t i).from j ((t j).to + 1))

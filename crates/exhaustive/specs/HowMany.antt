-- How many cuts are so.
-- Assumes nothing.
use Rattle.std.specs.Prelude.{◌≡◌, ℕ, ◌<◌}
use Rattle.runs.specs.Run.{Run}
use Rattle.runs.specs.Moment.{Cut, Moment}
use Rattle.moments.specs.Cuts.{Alike}

-- So many: they can be numbered from 0, each of them is so, no two are alike, and each cut that is so is alike one of them.
pub record HowMany (r : Run) (P : Cut → Type 0) (n : ℕ) : Type 0 where
  pub at : ℕ → Cut
  pub each : (k : ℕ) → k < n → P (at k)
  pub once : (a b : ℕ) → a < b → b < n → Alike r (at a) (at b) → ⊥
  pub all : (c : Cut) → P c → (k : ℕ) × (k < n) × Alike r (at k) c

-- There is one such number only, of moments.
abbrev pub OneNumber : Type 0
OneNumber = (r : Run) (m n : ℕ) → HowMany r (Moment r) m → HowMany r (Moment r) n → m ≡ n

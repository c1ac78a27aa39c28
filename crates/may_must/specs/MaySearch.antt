-- The search for the first moment of all yes, told as a relation.
-- Assumes nothing.
use Rattle.std.specs.Prelude.{◌≡◌, ℕ, suc, ◌+◌, ◌*◌, ◌<◌, ◌≤◌, max, true, false, Some, None, Option}
use Rattle.runs.specs.declared.counts.Counts.{Counts}
use Rattle.runs.specs.Run.{Run}
use Rattle.runs.specs.Moment.{Cut}
use Rattle.runs.specs.Model.{counts_of}
use Rattle.order.specs.Vectors.{Vectors}
use Rattle.moments.specs.Cuts.{Alike, nothing}
use Rattle.moments.specs.Signs.{Says}

-- machine i is the lowest whose sign is no
pub record LowestNo (r : Run) (s : Says) (c : Cut) (i : ℕ) : Type 0 where
  pub inside : i < r.count
  pub below : (j : ℕ) → j < i → s j (c j) ≡ true
  pub here : s i (c i) ≡ false

-- after so many joins the search is at this cut: each time the lowest machine whose sign is no goes on by one doing, and all others by what comes before that
pub data Searched (r : Run) (s : Says) (v : Vectors) : ℕ → Cut → Type 0 where
  begins : {c : Cut} → Alike r c nothing → Searched r s v 0 c
  joins : {k : ℕ} {c d : Cut} (i : ℕ) → Searched r s v k c → LowestNo r s c i → c i < r.did i → ((j : ℕ) → j < r.count → d j ≡ max (c j) (v i (c i + 1) j)) → Searched r s v (suc k) d

-- it ends where all say yes, or where that machine has no further doing
abbrev pub EndsAt : Run → Says → Cut → Option Counts → Type 0
EndsAt r s c (Some first) = Alike r c (counts_of first)
EndsAt r s c None = (i : ℕ) × LowestNo r s c i × (r.did i ≤ c i)

-- so many pairs were compared: one for each machine with each join that was made
pub record Compared (r : Run) (s : Says) (v : Vectors) (first : Option Counts) (pairs : ℕ) : Type 0 where
  pub joins : ℕ
  pub cut : Cut
  pub searched : Searched r s v joins cut
  pub ends : EndsAt r s cut first
  pub each : pairs ≡ r.count * joins

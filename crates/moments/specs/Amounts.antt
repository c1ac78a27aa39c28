-- What is asked of amounts: how little and how much there was of something in all.
-- Assumes nothing.
use Rattle.std.specs.Prelude.{◌≡◌, ℕ, zero, suc, ◌+◌, ◌≤◌}
use Rattle.runs.specs.Run.{Run, Done}
use Rattle.runs.specs.Moment.{Cut, Moment}
use Rattle.moments.specs.Cuts.{Below}

-- much i m: machine i's amount after m doings
abbrev pub Much : Type 0
Much = ℕ → ℕ → ℕ

-- of the first so many machines, and of all
unfoldable pub sum : ℕ → Much → Cut → ℕ
sum zero w c = 0
sum (suc n) w c = w n (c n) + sum n w c

abbrev pub total : Run → Much → Cut → ℕ
total r w c = sum r.count w c

-- how many doings there are in all
abbrev pub doings : Run → ℕ
doings r = total r (λ i m. m) r.did

-- the least that all amounts together are at any moment, at the lowest of the moments that have it
pub record Least (r : Run) (w : Much) (c : Cut) : Type 0 where
  pub moment : Moment r c
  pub least : (d : Cut) → Moment r d → total r w c ≤ total r w d
  pub lowest : (d : Cut) → Moment r d → total r w d ≡ total r w c → Below r c d

-- and the most
pub record Most (r : Run) (w : Much) (c : Cut) : Type 0 where
  pub moment : Moment r c
  pub most : (d : Cut) → Moment r d → total r w d ≤ total r w c
  pub lowest : (d : Cut) → Moment r d → total r w d ≡ total r w c → Below r c d

-- Every run has both.
abbrev pub LeastFound : Type 0
LeastFound = (r : Run) → Done r → (w : Much) → (c : Cut) × Least r w c

abbrev pub MostFound : Type 0
MostFound = (r : Run) → Done r → (w : Much) → (c : Cut) × Most r w c

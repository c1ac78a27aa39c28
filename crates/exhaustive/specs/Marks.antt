-- Marks on the cuts to which a run can have come without a moment of all yes.
-- Assumes nothing.
use Rattle.std.specs.Prelude.{◌≡◌, ℕ, ◌-◌, ◌<◌, ◌⊎◌, Bool, true, false, List, Decides, slice_index_or}
use Rattle.runs.specs.Run.{Run}
use Rattle.runs.specs.Moment.{Cut}
use Rattle.moments.specs.Cuts.{Below}
use Rattle.moments.specs.Signs.{Says, ComesTo}
use Rattle.exhaustive.specs.Counter.{weight, rank_of}

-- of the first n cuts just those are marked
abbrev pub Marked : Run → Says → List Bool → ℕ → Type 0
Marked r s marks n = (c : Cut) → Below r c r.did → rank_of r c < n → Decides (slice_index_or marks (rank_of r c) false) (ComesTo r s c)

-- it is the first, or some cut with one doing less is
abbrev pub Came : Run → List Bool → Cut → ℕ → Type 0
Came r marks c number = (number ≡ 0) ⊎ ((i : ℕ) × (i < r.count) × (0 < c i) × (slice_index_or marks (number - weight r.did i) false ≡ true))

-- What the search for the lowest ring promises.
-- Assumes nothing.
use Rattle.std.specs.Prelude.{ℕ, ◌<◌, List, length, Some, None, vec_items, Option, Vec, slice_index}
use Rattle.std.specs.declared.alloc.Global.{Global}
use Rattle.records.specs.declared.place.Place.{Place}
use Rattle.runs.specs.Run.{Run, Before}
use Rattle.rings.specs.Ring.{LowestRing}

abbrev pub AllBelow : ℕ → List ℕ → Type 0
AllBelow n xs = (k : ℕ) → k < length xs → slice_index xs k < n

-- nothing comes before itself, or the lowest ring of the fewest doings
abbrev pub RingFound : Run → Option (Vec Place Global) → Type 0
RingFound r None = (i m : ℕ) → Before r i m i m → ⊥
RingFound r (Some v) = LowestRing r (vec_items v)

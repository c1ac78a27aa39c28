-- All cuts of a run, numbered as by a counter whose lowest machine is the fastest (mixed radix).
-- Assumes nothing.
use Rattle.std.specs.Prelude.{◌≡◌, ℕ, zero, suc, ◌+◌, ◌*◌, ◌<◌}
use Rattle.runs.specs.Run.{Run}
use Rattle.runs.specs.Moment.{Cut}
use Rattle.moments.specs.Cuts.{Alike, Below}
use Rattle.moments.specs.Ways.{Next}

-- how many cuts the first n machines have between them; so much does a doing of machine n count
unfoldable pub weight : Cut → ℕ → ℕ
weight did zero = 1
weight did (suc n) = (did n + 1) * weight did n

unfoldable pub rank : Cut → ℕ → Cut → ℕ
rank did zero c = 0
rank did (suc n) c = c n * weight did n + rank did n c

-- how many cuts there are, each machine's doings and one multiplied; and a cut's number among them
abbrev pub cuts_of : Run → ℕ
cuts_of r = weight r.did r.count

abbrev pub rank_of : Run → Cut → ℕ
rank_of r c = rank r.did r.count c

-- The numbers are those of a counter: each cut has one below their number, no two have the same, and a cut has a higher one than those with a doing less.
pub record Numbering (r : Run) : Type 0 where
  pub within : (c : Cut) → Below r c r.did → rank_of r c < cuts_of r
  pub once : (c d : Cut) → Below r c r.did → Below r d r.did → rank_of r c ≡ rank_of r d → Alike r c d
  pub later : (c d : Cut) → Next r c d → rank_of r c < rank_of r d

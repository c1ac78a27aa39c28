-- Doings by number, in order of machine, then doing, and what leads to them.
-- Assumes nothing.
use Rattle.std.specs.Prelude.{◌≡◌, ℕ, zero, suc, ◌+◌, ◌-◌, ◌<◌, List, [], ◌∷◌, ◌++◌, length, nat_lt, option_map, slice_index_or}
use Rattle.records.specs.declared.place.Place.{Place}
use Rattle.letters.specs.Noting.{place as at}
use Rattle.runs.specs.declared.counts.Counts.{Counts}
use Rattle.runs.specs.declared.run.Run.{Run}
use Rattle.runs.specs.Model.{counts_of, sending_of}
use Rattle.rings.specs.declared.links.Link.{Link}

-- the first m doings of machine i, and all of the first so many machines
abbrev pub places_of : ℕ → ℕ → List Place
places_of i zero = []
places_of i (suc m) = places_of i m ++ (at i (suc m) ∷ [])

abbrev pub places_in : (ℕ → ℕ) → ℕ → List Place
places_in did zero = []
places_in did (suc i) = places_in did i ++ places_of i (did i)

-- the first so many machines are numbered
pub record NumberedTo (r : Run) (n : ℕ) (places : List Place) (begins : Counts) : Type 0 where
  pub items : places ≡ places_in (counts_of r.did) n
  pub begin : (k : ℕ) → k < n → counts_of begins k ≡ length (places_in (counts_of r.did) k)

abbrev pub Numbered : Run → List Place → Counts → Type 0
Numbered r = NumberedTo r r.count

abbrev pub place_of : List Place → ℕ → Place
place_of places w = slice_index_or places w (at 0 0)

abbrev pub number_of : Counts → Place → ℕ
number_of begins p = counts_of begins p.machine + p.doing - 1

-- the machine's doing before, and the number of where the letter was sent, if one was got
abbrev pub link_of : Run → Counts → Place → Link
link_of r begins p = record { own = nat_lt 1 p.doing; letter = option_map (number_of begins) (sending_of r p.machine p.doing) }

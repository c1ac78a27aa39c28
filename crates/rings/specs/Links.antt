-- The steps that the links say, and what the functions of the search do to their tables.
-- Assumes nothing.
use Rattle.std.specs.Prelude.{◌≡◌, ℕ, zero, suc, ◌+◌, ◌-◌, ◌<◌, ◌≤◌, true, false, ◌⊎◌, List, [], ◌∷◌, ◌++◌, length, Some, None, Option, ◌≢◌, slice_index, slice_index_or, slice_set}
use mathlib.Core.List.{Memᴰ}
use Rattle.rings.specs.declared.links.Link.{Link}
use Rattle.rings.specs.RingSearch.{Level, Exact, Toward}

-- nothing leads to a number past the last
abbrev pub link_at : List Link → ℕ → Link
link_at links w = slice_index_or links w (record { own = false; letter = None })

-- each letter's sending has a number
abbrev pub Within : List Link → Type 0
Within links = (w v : ℕ) → (link_at links w).letter ≡ Some v → v < length links

-- steps into w: from w - 1 if that is the same machine's doing, and from the sending of what w gets
abbrev pub In : List Link → ℕ → ℕ → Type 0
In links v w = (v < length links) × (w < length links) × ((((link_at links w).own ≡ true) × (w ≡ v + 1)) ⊎ ((link_at links w).letter ≡ Some v))

-- the distance that an entry of a table says; where it's 0, none is known, and top stands for it
abbrev pub far_of : ℕ → ℕ → ℕ
far_of top zero = top
far_of top (suc n) = suc n

abbrev pub far : List ℕ → ℕ → ℕ → ℕ
far table top v = far_of top (slice_index table v)

-- from s on the table has only distances below top
abbrev pub Below : ℕ → ℕ → List ℕ → Type 0
Below s top table = (v : ℕ) → s ≤ v → slice_index table v < top

-- a next number of v that is k steps from s, and the lowest of them
abbrev pub SomeNext : List Link → List ℕ → ℕ → ℕ → ℕ → Type 0
SomeNext links table s v k = (w : ℕ) × (s ≤ w) × In links v w × (slice_index table w ≡ k)

pub record Lowest (links : List Link) (table : List ℕ) (s v k r : ℕ) : Type 0 where
  pub from : s ≤ r
  pub step : In links v r
  pub here : slice_index table r ≡ k
  pub least : (u : ℕ) → s ≤ u → In links v u → slice_index table u ≡ k → r ≤ u

-- what marking v with so many steps does to a table and a list
abbrev pub Marked : ℕ → ℕ → List ℕ → List ℕ → List ℕ → List ℕ → Type 0
Marked steps v table next table' next' = ((slice_index table v ≡ 0) × (table' ≡ slice_set table v steps) × (next' ≡ next ++ (v ∷ []))) ⊎ ((slice_index table v ≢ 0) × (table' ≡ table) × (next' ≡ next))

-- the sending of what w gets, if that is from s on
abbrev pub SentFrom : List Link → ℕ → ℕ → Option ℕ → Type 0
SentFrom links s w None = (v : ℕ) → (link_at links w).letter ≡ Some v → v < s
SentFrom links s w (Some v) = ((link_at links w).letter ≡ Some v) × (s ≤ v) × (v < length links)

-- where P holds, v is marked
abbrev pub Maybe : Type 0 → ℕ → ℕ → List ℕ → List ℕ → List ℕ → List ℕ → Type 0
Maybe P steps v table next table' next' = (P × Marked steps v table next table' next') ⊎ ((P → ⊥) × (table' ≡ table) × (next' ≡ next))

-- the sending that there is was marked
abbrev pub ByLetter : Option ℕ → ℕ → List ℕ → List ℕ → List ℕ → List ℕ → Type 0
ByLetter None steps table next table' next' = (table' ≡ table) × (next' ≡ next)
ByLetter (Some v) steps table next table' next' = Marked steps v table next table' next'

-- the numbers from s on from which a step leads to w were marked
pub record Into (links : List Link) (s steps w : ℕ) (table : List ℕ) (next : List ℕ) (table' : List ℕ) (next' : List ℕ) : Type 0 where
  pub table₁ : List ℕ
  pub next₁ : List ℕ
  pub own : Maybe (((link_at links w).own ≡ true) × (s < w)) steps (w - 1) table next table₁ next₁
  pub sending : Option ℕ
  pub sent : SentFrom links s w sending
  pub letter : ByLetter sending steps table₁ next₁ table' next'

-- those at level k from s on
pub record Frontier (s k : ℕ) (d : ℕ → ℕ) (cur : List ℕ) : Type 0 where
  pub all : (w : ℕ) → s ≤ w → d w ≡ k → Memᴰ w cur
  pub right : (w : ℕ) → Memᴰ w cur → (s ≤ w) × (d w ≡ k)

-- a table after k levels, and those at the last of them
pub record Leveled (links : List Link) (s top k : ℕ) (table : List ℕ) (cur : List ℕ) : Type 0 where
  pub long : length table ≡ length links
  pub below : Below s top table
  pub level : Level (In links) s top k (far table top)
  pub frontier : Frontier s k (far table top) cur

-- a table of all the distances below top
pub record Measured (links : List Link) (s top : ℕ) (table : List ℕ) : Type 0 where
  pub long : length table ≡ length links
  pub below : Below s top table
  pub exact : Exact (In links) s top (far table top)

-- on the way along the distances: xs was gone after s, up to v, from which it is k steps back to s
pub record Going (links : List Link) (table : List ℕ) (s top v k : ℕ) (xs : List ℕ) : Type 0 where
  pub inside : v < length links
  pub from : s ≤ v
  pub here : far table top v ≡ k
  pub low : k < top
  pub one : 1 ≤ k
  pub toward : Toward (In links) s (far table top) xs v (k - 1)
  pub long : k + length xs ≡ far table top s

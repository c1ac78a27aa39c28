-- The search for the lowest ring among numbers that stand for places: what its tables are to be. For the contracts of its functions.
-- Assumes nothing.
use Rattle.std.specs.Prelude.{◌≡◌, ℕ, ◌+◌, ◌<◌, ◌≤◌, ◌⊎◌, List, [], ◌∷◌, ◌++◌, length}
use mathlib.Core.List.{Memᴰ}
use Rattle.records.specs.declared.place.Place.{Place}
use Rattle.records.specs.Refusal.{Earlier}
use Rattle.runs.specs.Run.{Run}
use Rattle.rings.specs.Ring.{Step}

abbrev pub Done : Run → Place → Type 0
Done r p = (p.machine < r.count) × (1 ≤ p.doing) × (p.doing ≤ r.did p.machine)

-- the numbers below n stand for places, in their order, and each doing has one
pub record Flat (r : Run) (n : ℕ) (place : ℕ → Place) : Type 0 where
  pub up : (a b : ℕ) → a < b → b < n → Earlier (place a) (place b)
  pub only : (a : ℕ) → a < n → Done r (place a)
  pub all : (p : Place) → Done r p → (a : ℕ) × (a < n) × (p ≡ place a)

-- no later than doing m of machine i
abbrev pub UpTo : ℕ → ℕ → Place → Type 0
UpTo i m p = (p.machine < i) ⊎ ((p.machine ≡ i) × (p.doing ≤ m))

-- on the way to that: the numbers below size stand for the places up to doing m of machine i, in their order
pub record Filled (r : Run) (place : ℕ → Place) (size i m : ℕ) : Type 0 where
  pub up : (a b : ℕ) → a < b → b < size → Earlier (place a) (place b)
  pub only : (a : ℕ) → a < size → Done r (place a)
  pub within : (a : ℕ) → a < size → UpTo i m (place a)
  pub all : (p : Place) → Done r p → UpTo i m p → (a : ℕ) × (a < size) × (p ≡ place a)

abbrev pub Edge : Run → ℕ → (ℕ → Place) → ℕ → ℕ → Type 0
Edge r n place a b = (a < n) × (b < n) × Step r (place a) (place b)

-- walks along any relation: the places after p, and after the last of them `back`
abbrev pub Walk : {A : Type 0} → (A → A → Type 0) → A → List A → A → Type 0
Walk E p [] back = E p back
Walk E p (q ∷ qs) back = E p q × Walk E q qs back

abbrev pub Round : {A : Type 0} → (A → A → Type 0) → List A → Type 0
Round E [] = ⊥
Round E (p ∷ ps) = Walk E p ps p

-- all from s on
abbrev pub From : ℕ → List ℕ → Type 0
From s [] = Unit {0}
From s (q ∷ qs) = (s ≤ q) × From s qs

-- E v w: there is a step from v to w
module _ (E : ℕ → ℕ → Type 0) where
  -- each ring that begins with its lowest number, t, has at least m numbers
  abbrev pub AtLeast : ℕ → ℕ → Type 0
  AtLeast t m = (qs : List ℕ) → From t qs → Walk E t qs t → m ≤ 1 + length qs

  -- d v: no more than the steps from v back to s, where only numbers from s on are gone through; d s is that of a ring
  pub record Table (s : ℕ) (d : ℕ → ℕ) : Type 0 where
    pub close : (v : ℕ) → s ≤ v → E v s → d v ≤ 1
    pub on : (v w : ℕ) → s ≤ v → s ≤ w → E v w → d v ≤ 1 + d w

  -- v's distance is that of a walk: a step back to s, or a step to a number that is one nearer
  abbrev pub Attained : ℕ → (ℕ → ℕ) → ℕ → Type 0
  Attained s d v = ((d v ≡ 1) × E v s) ⊎ ((w : ℕ) × (s ≤ w) × E v w × (d v ≡ 1 + d w))

  -- the distances back to s below top, and top for the others
  pub record Exact (s top : ℕ) (d : ℕ → ℕ) : Type 0 where
    pub table : Table s d
    pub some : (v : ℕ) → s ≤ v → 1 ≤ d v
    pub attained : (v : ℕ) → s ≤ v → d v < top → Attained s d v

  -- the same after k levels: those at most k are right, and the steps into those below k have been looked at
  pub record Level (s top k : ℕ) (d : ℕ → ℕ) : Type 0 where
    pub some : (v : ℕ) → s ≤ v → 1 ≤ d v
    pub most : (v : ℕ) → s ≤ v → (d v ≤ k) ⊎ (d v ≡ top)
    pub close : (v : ℕ) → s ≤ v → E v s → d v ≤ 1
    pub on : (v w : ℕ) → s ≤ v → s ≤ w → E v w → d w < k → d v ≤ 1 + d w
    pub attained : (v : ℕ) → s ≤ v → d v < top → Attained s d v

  -- from d to f: some that had top have k + 1 now, each by a step to one that has k; and all that have such a step are at most k + 1
  pub record Raised (s top k : ℕ) (d f : ℕ → ℕ) : Type 0 where
    pub changed : (v : ℕ) → s ≤ v → (f v ≡ d v) ⊎ ((d v ≡ top) × (f v ≡ k + 1) × ((w : ℕ) × (s ≤ w) × E v w × (d w ≡ k)))
    pub all : (v w : ℕ) → s ≤ v → s ≤ w → E v w → d w ≡ k → f v ≤ k + 1

  -- on the way to that, D w: the steps into w have been looked at; next: the numbers that got k + 1
  pub record Raising (s top k : ℕ) (d : ℕ → ℕ) (D : ℕ → Type 0) (f : ℕ → ℕ) (next : List ℕ) : Type 0 where
    pub changed : (v : ℕ) → s ≤ v → (f v ≡ d v) ⊎ ((d v ≡ top) × (f v ≡ k + 1) × ((w : ℕ) × (s ≤ w) × E v w × (d w ≡ k)))
    pub all : (v w : ℕ) → s ≤ v → s ≤ w → E v w → D w → f v ≤ k + 1
    pub noted : (v : ℕ) → s ≤ v → f v ≡ k + 1 → Memᴰ v next
    pub right : (v : ℕ) → Memᴰ v next → (s ≤ v) × (f v ≡ k + 1)

  -- The starts below t have been gone through: no ring from one of them has fewer than l numbers, nor from one before s as few.
  pub record Best (t s l : ℕ) : Type 0 where
    pub before : s ≤ t
    pub least : (u : ℕ) → u < t → AtLeast u l
    pub first : (u : ℕ) → u < t → u < s → AtLeast u (l + 1)

  -- from v go to the lowest next number that can still be back at s in time, and so on
  abbrev pub Greedy : ℕ → (ℕ → ℕ) → ℕ → List ℕ → Type 0
  Greedy s d v [] = E v s
  Greedy s d v (w ∷ ws) = E v w × ((u : ℕ) → s ≤ u → E v u → d u ≤ 1 + length ws → w ≤ u) × Greedy s d w ws

  -- on the way along the table: xs was gone after s, up to v, and k numbers are still to come
  abbrev pub Toward : ℕ → (ℕ → ℕ) → List ℕ → ℕ → ℕ → Type 0
  Toward s d xs v k = (ws : List ℕ) → length ws ≡ k → Greedy s d v ws → Greedy s d s (xs ++ ws)

  -- what the search found: a way along a table from s, while no ring from elsewhere has fewer numbers, and none from before s as few
  pub record Found (s : ℕ) (ws : List ℕ) : Type 0 where
    pub d : ℕ → ℕ
    pub table : Table s d
    pub goes : Greedy s d s ws
    pub least : (t : ℕ) → AtLeast t (1 + length ws)
    pub first : (t : ℕ) → t < s → AtLeast t (2 + length ws)
